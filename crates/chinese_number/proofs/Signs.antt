-- A sign in front of a numeral.
use Rattle.std.proofs.Common.{◌≡◌, ℕ, ◌^◌, ◌<◌, pos, true, false, List, [], ◌∷◌, Some, Ok, refl, subst, arith}
use Rattle.cn_core.specs.declared.method.ChineseCountMethod.{ChineseCountMethod}
use Rattle.cn_core.specs.declared.sign.Sign.{Sign}
use Rattle.cn_core.specs.declared.sign.Sign.TheVariants.{Minus}
use Rattle.cn_core.specs.Characters.{digit_of, sign_of}
use Rattle.cn_core.specs.Mark.{digit}
use Rattle.cn_core.specs.Numeral.{IsNumeral}
use Rattle.cn_core.specs.Place.{some_unfit}
use Rattle.cn_core.specs.Text.{text_of, marks_of}
use Rattle.cn_core.specs.Reading.{Reads, is_minus}
use Rattle.cn_core.specs.Value.{numeral_value}
use Rattle.cn_core.specs.Whole.{signed_number, Kind, holds}
use Rattle.chinese_number.proofs.Reading.{IsWhole, HasParts, Reads-parts, size_of}
use Rattle.cn_spell.proofs.SignedNumbers.{typed_number-held}
use Rattle.cn_spell.proofs.SpelledMarks.{Judges-numeral}

HasParts-sign : (kind : Kind) (bytes rest : List ℕ) (character : ℕ) (sign : Sign)
    → kind.signed ≡ true → text_of bytes ≡ character ∷ rest → sign_of character ≡ Some sign
    → HasParts kind bytes (Some sign) (marks_of rest)
HasParts-sign kind bytes rest character sign signed text is = record {
  sign_is = rw (text, signed) is;
  marks_is = rw text;
}

-- it gives the signed value
pub Reads-signed : (kind : Kind) (method : ChineseCountMethod) (bytes rest : List ℕ)
    (character : ℕ) (sign : Sign) → IsWhole kind → kind.signed ≡ true
    → text_of bytes ≡ character ∷ rest
    → sign_of character ≡ Some sign → IsNumeral (marks_of rest)
    → some_unfit method (marks_of rest) ≡ false
    → let number = signed_number (is_minus (Some sign)) (numeral_value method (marks_of rest))
    in holds kind number ≡ true → Reads kind method bytes (Ok number)
Reads-signed kind method bytes rest character sign whole signed text is numeral fits held =
    let size = numeral_value method (marks_of rest) in
    let number = signed_number (is_minus (Some sign)) size in
    let small : size < 2 ^ 128 = omega (arith, whole.fits number held, size_of (Some sign) size) in
    subst (Reads kind method bytes) (typed_number-held kind number held)
    (Reads-parts kind method bytes (Some sign) (marks_of rest) (Ok size)
    (HasParts-sign kind bytes rest character sign signed text is)
    (Judges-numeral method (marks_of rest) size numeral fits refl small))

-- 負零
pub Reads-minus_zero : (kind : Kind) (method : ChineseCountMethod) (bytes : List ℕ)
    (minus nought : ℕ) → kind.signed ≡ true → holds kind (pos 0) ≡ true
    → sign_of minus ≡ Some Minus → digit_of nought ≡ Some 0
    → text_of bytes ≡ minus ∷ nought ∷ [] → Reads kind method bytes (Ok (pos 0))
Reads-minus_zero kind method bytes minus nought signed held is none text =
    let one : marks_of (nought ∷ []) ≡ digit 0 ∷ [] = rw none in
    subst (Reads kind method bytes) (typed_number-held kind (pos 0) held)
    (Reads-parts kind method bytes (Some Minus) (digit 0 ∷ []) (Ok 0)
    (subst (HasParts kind bytes (Some Minus)) one
    (HasParts-sign kind bytes (nought ∷ []) minus Minus signed text is))
    (Judges-numeral method (digit 0 ∷ []) 0 refl refl refl (omega arith)))
