-- As many characters of two texts are passed over.
use Rattle.std.proofs.Common.{◌≡◌, ℕ, suc, ◌-◌, ◌<◌, ◌≤◌, List, [], ◌∷◌, ◌++◌, length, drop, chars, encode_utf8_all, IsUtf8, refl, sym, ap, ◌∙◌, arith, length-append}
use Rattle.std.proofs.lemmas.Str.{encodes-append, encodes-chars, length-le-encodes}
use Rattle.cn_phrase.specs.Suffix.{EndsWith}

bytes-of : (left rest f : List ℕ) → IsUtf8 left → IsUtf8 rest → chars left ≡ f ++ chars rest
    → left ≡ encode_utf8_all f ++ rest
bytes-of left rest f utf8 ended parts =
    sym (encodes-chars left utf8) ∙ ap encode_utf8_all parts ∙ encodes-append f (chars rest)
    ∙ ap (λ l. encode_utf8_all f ++ l) (encodes-chars rest ended)

-- the suffix is reached
pub as-many-end : (left rest next : List ℕ) → EndsWith (chars left) (chars rest) → IsUtf8 left
    → IsUtf8 rest → length left ≤ length rest
    → drop (length (chars left) - length (chars rest)) (chars next) ≡ chars next
as-many-end left rest next ends utf8 ended less =
    by (length (chars left) - length (chars rest)) (omega (
      arith,
      ap length (bytes-of left rest ends.0 utf8 ended ends.1),
      length-append (encode_utf8_all ends.0) rest,
      length-le-encodes ends.0,
      ap length ends.1,
      length-append ends.0 (chars rest),
      less,
    )) where
      by : (n : ℕ) → n ≡ 0 → drop n (chars next) ≡ chars next
      by n e = ap (λ k. drop k (chars next)) e

-- a character of each text is passed over
pub record AsManyMore (left rest behind next others : List ℕ) : Type 0 where
  pub ends : EndsWith (chars behind) (chars rest)
  pub same : drop (length (chars left) - length (chars rest)) (chars next)
      ≡ drop (length (chars behind) - length (chars rest)) (chars others)

pub AsManyMore-of : (left rest behind next others : List ℕ) (c d : ℕ)
    → EndsWith (chars left) (chars rest) → IsUtf8 left → IsUtf8 rest → length rest < length left
    → chars left ≡ c ∷ chars behind → chars next ≡ d ∷ chars others
    → AsManyMore left rest behind next others
AsManyMore-of left rest behind next others c d ends utf8 ended less parts next_parts =
    by ends.0 ends.1 where
      by : (f : List ℕ) → chars left ≡ f ++ chars rest → AsManyMore left rest behind next others
      by [] e = absurd (omega (arith, ap length (bytes-of left rest [] utf8 ended e), less))
      by (a ∷ f) e =
          let behind_is : chars behind ≡ f ++ chars rest = cc in
          record {
            ends = (f, behind_is);
            same = ap (λ n. drop n (chars next)) (count behind_is)
                ∙ ap (drop (suc (length (chars behind) - length (chars rest)))) next_parts;
          } where
            count : chars behind ≡ f ++ chars rest → length (chars left) - length (chars rest)
                ≡ suc (length (chars behind) - length (chars rest))
            count is = omega (arith, ap length parts, ap length is, length-append f (chars rest))
