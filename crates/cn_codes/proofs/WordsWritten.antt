-- The characters of words that are given as texts.
use Rattle.std.proofs.Common.{◌≡◌, ℕ, true, List, [], ◌∷◌, map, chars, encode_utf8_all, refl, ap, ◌∙◌}
use Rattle.std.proofs.Math.Utf8.{scalars}
use Rattle.std.proofs.lemmas.Str.{chars-encodes}
use Rattle.std.specs.List.{list_all}
use Rattle.cn_core.proofs.Fronts.{and-left, and-right}

pub words-are : (words : List (List ℕ)) → list_all scalars words ≡ true
    → map (λ word. chars (encode_utf8_all word)) words ≡ words
words-are [] e = refl
words-are (word ∷ words) e =
    ap (λ l. l ∷ map (λ each. chars (encode_utf8_all each)) words)
    (chars-encodes word (and-left (scalars word) (list_all scalars words) e))
    ∙ ap (λ l. word ∷ l) (words-are words (and-right (scalars word) (list_all scalars words) e))
