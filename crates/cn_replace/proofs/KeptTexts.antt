-- The parts of a new text in the kept style.
use Rattle.std.proofs.Common.{◌≡◌, ℕ, true, false, List, [], ◌∷◌, ◌++◌, chars, encode_utf8_all, reverse, codes, Option, Some, refl, sym, ap, ◌∙◌}
use Rattle.std.proofs.lemmas.List.{reverse-reverse}
use Rattle.cn_core.specs.declared.method.ChineseCountMethod.{ChineseCountMethod}
use Rattle.cn_core.specs.FigureCharacters.{is_share_sign}
use Rattle.cn_find.specs.Spans.{in_front}
use Rattle.cn_replace.specs.Kept.{denominator_text, is_below_zero, is_minus, is_small, kept_text, percent_text, signed_text, unsigned_text}
use Rattle.cn_replace.specs.KeptNumbers.{and_text, number_text, quantity_of}
use Rattle.cn_replace.proofs.Passing.{same_front}

pub signed_is : (text_of : List ℕ → Option (List ℕ)) (text rest : List ℕ) (c : ℕ)
    → is_minus c ≡ true → text ≡ c ∷ rest
    → and_text (Some (codes "-")) (text_of rest) ≡ signed_text text_of text
signed_is text_of text rest c minus e = sym (ap (signed_text text_of) e ∙ rw minus refl)

pub denominator_is : (method : ChineseCountMethod) (text : List ℕ)
    → is_small (quantity_of method text) ≡ true
    → and_text (Some (codes "/")) (number_text method text) ≡ denominator_text method text
unfolding denominator_text
denominator_is method text small = sym (rw small refl)

pub plain_is : (method : ChineseCountMethod) (text front : List ℕ) (c : ℕ)
    → in_front text ≡ c ∷ front → is_share_sign c ≡ false
    → number_text method (chars text) ≡ percent_text method (in_front text)
unfolding percent_text
plain_is method text front c e none =
    ap (number_text method) (sym (reverse-reverse (chars text)) ∙ ap reverse e)
    ∙ sym (ap (percent_text method) e ∙ rw none refl)

pub below_zero_is : (method : ChineseCountMethod) (text piece rest : List ℕ) (c d : ℕ)
    → is_below_zero c d ≡ true → text ≡ c ∷ d ∷ rest → text ≡ piece ++ rest
    → and_text (Some (encode_utf8_all piece)) (unsigned_text method rest) ≡ kept_text method text
unfolding kept_text
below_zero_is method text piece rest c d below e parts =
    ap (λ l. and_text (Some (encode_utf8_all l)) (unsigned_text method rest))
    (same_front (c ∷ d ∷ []) piece rest (sym parts ∙ e))
    ∙ sym (ap (kept_text method) e ∙ rw below refl)
