-- A measure after a number.
use Rattle.std.proofs.Common.{◌≡◌, ℕ, Bool, not, ◌&&◌, List, chars, encode_utf8_all, IsUtf8, sym, ap, ◌∙◌}
use Rattle.std.specs.Char.{is_ascii_alphabetic}
use Rattle.std.proofs.lemmas.Str.{encodes-chars}
use Rattle.cn_replace.specs.Clings.{begins_measure, is_word_of, measures}
use Rattle.cn_core.specs.FigureCharacters.{is_figure}
use Rattle.cn_replace.specs.Pieces.{after_leading, begins, leading}

pub measure_is : (text letters after : List ℕ) (is_word : Bool) → IsUtf8 letters
    → chars letters ≡ leading is_ascii_alphabetic text
    → chars after ≡ after_leading is_ascii_alphabetic text → is_word ≡ is_word_of measures letters
    → (is_word && not (begins is_figure (chars after))) ≡ begins_measure text
unfolding begins_measure
measure_is text letters after is_word utf8 e f w =
    ap (λ b. b && not (begins is_figure (chars after))) (w ∙ ap (is_word_of measures)
    (sym (encodes-chars letters utf8) ∙ ap encode_utf8_all e))
    ∙ ap (λ l. is_word_of measures (encode_utf8_all (leading is_ascii_alphabetic text))
    && not (begins is_figure l)) f
