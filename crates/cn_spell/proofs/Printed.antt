-- A written text is read as the marks that it was written for.
use Rattle.std.proofs.Common.{◌≡◌, ℕ, zero, suc, ◌<◌, Bool, true, false, ◌&&◌, ◌==◌, nat_lt, if◌then◌else◌, List, [], ◌∷◌, map, filter, Option, Some, None, is_none, refl, ap, ◌∙◌, arith}
use Rattle.std.proofs.Math.Decide.{dec_lt}
use Rattle.std.proofs.lemmas.Bool.Decides.{nat_tests}
use Rattle.std.proofs.lemmas.Str.{chars-encodes}
use Rattle.std.specs.Char.{is_not_whitespace}
use Rattle.std.specs.List.{list_all}
use Rattle.std.specs.Str.{all_scalars}
use Rattle.cn_core.specs.declared.case.ChineseCase.{ChineseCase}
use Rattle.cn_core.specs.declared.case.ChineseCase.TheVariants.{Upper, Lower}
use Rattle.cn_core.specs.declared.script.ChineseVariant.{ChineseVariant}
use Rattle.cn_core.specs.declared.script.ChineseVariant.TheVariants.{Traditional, Simple}
use Rattle.cn_core.specs.declared.sign.Sign.TheVariants.{Minus}
use Rattle.cn_core.specs.Characters.{digit_of, rank_of, sign_of, digit_char, unit_char, minus_char}
use Rattle.cn_core.specs.Mark.{Mark, digit, unit, other, mark_of}
use Rattle.cn_core.specs.Numeral.{with_first_digit, starts_with_digit}
use Rattle.cn_core.specs.Text.{text_of, marks_of}
use Rattle.cn_core.specs.Printing.{mark_char, signed_text, signed_bytes}
use Rattle.cn_core.proofs.Fronts.{and-left, and-right, both}
use Rattle.cn_core.proofs.Marks.{same_mark, same_mark-is}

-- the mark is a digit below 10, or a unit
abbrev pub is_printed : Mark → Bool
is_printed (digit value) = nat_lt value 10
is_printed (unit rank) = nat_lt rank 16
is_printed other = false

-- the test holds of each number below a bound
abbrev pub each_below : (ℕ → Bool) → ℕ → Bool
each_below test zero = true
each_below test (suc n) = test n && each_below test n

pub each_below-at : (test : ℕ → Bool) (n k : ℕ) → each_below test n ≡ true → k < n → test k ≡ true
each_below-at test zero k h low = absurd (omega (arith, low))
each_below-at test (suc n) k h low = elim (dec_lt k n) [
  | yes less ↦ each_below-at test n k (and-right (test n) _ h) less
  | no last ↦ let e : k ≡ n = omega (arith, low, last) in rw e (and-left (test n) _ h)
]

-- the character of a mark is not white space, and is read as that mark
abbrev is_read_back : ChineseVariant → ChineseCase → Mark → Bool
is_read_back variant case mark =
    let c = mark_char variant case mark in same_mark (mark_of c) mark && all_scalars (c ∷ []) && is_not_whitespace c

digits_read_back : (variant : ChineseVariant) (case : ChineseCase) → each_below (λ value. is_read_back variant case (digit value)) 10 ≡ true
unfolding digit_char digit_of rank_of
digits_read_back Traditional Upper = refl
digits_read_back Traditional Lower = refl
digits_read_back Simple Upper = refl
digits_read_back Simple Lower = refl

units_read_back : (variant : ChineseVariant) (case : ChineseCase) → each_below (λ rank. is_read_back variant case (unit rank)) 16 ≡ true
unfolding unit_char digit_of rank_of
units_read_back Traditional Upper = refl
units_read_back Traditional Lower = refl
units_read_back Simple Upper = refl
units_read_back Simple Lower = refl

read_back : (variant : ChineseVariant) (case : ChineseCase) (mark : Mark) → is_printed mark ≡ true → is_read_back variant case mark ≡ true
read_back variant case (digit value) h =
    each_below-at (λ value. is_read_back variant case (digit value)) 10 value (digits_read_back variant case) (grind (arith, nat_tests))
read_back variant case (unit rank) h =
    each_below-at (λ rank. is_read_back variant case (unit rank)) 16 rank (units_read_back variant case) (grind (arith, nat_tests))
read_back variant case other h = cc

-- the text of such marks is read as these marks
pub record IsReadBack (text : List ℕ) (marks : List Mark) : Type 0 where
  pub scalars : all_scalars text ≡ true
  pub kept : filter is_not_whitespace text ≡ text
  pub marks_same : marks_of text ≡ marks

pub IsReadBack-nil : IsReadBack [] []
IsReadBack-nil = record { scalars = refl; kept = refl; marks_same = refl }

IsReadBack-more : (c : ℕ) (text : List ℕ) (marks : List Mark) → all_scalars (c ∷ []) ≡ true
    → is_not_whitespace c ≡ true → IsReadBack text marks → IsReadBack (c ∷ text) (mark_of c ∷ marks)
IsReadBack-more c text marks s w h = record {
  scalars = both _ _ (and-left _ true s) h.scalars;
  kept = rw w (ap (λ l. c ∷ l) h.kept);
  marks_same = ap (λ l. mark_of c ∷ l) h.marks_same;
}

pub IsReadBack-marks : (variant : ChineseVariant) (case : ChineseCase) (marks : List Mark) → list_all is_printed marks ≡ true → IsReadBack (map (mark_char variant case) marks) marks
IsReadBack-marks variant case [] h = IsReadBack-nil
IsReadBack-marks variant case (mark ∷ marks) h =
    let c = mark_char variant case mark in
    let t = read_back variant case mark (and-left (is_printed mark) _ h) in
    let same = same_mark-is (mark_of c) mark
    (and-left (same_mark (mark_of c) mark) _
    (and-left (same_mark (mark_of c) mark && all_scalars (c ∷ [])) _ t)) in
    let scalar = and-right (same_mark (mark_of c) mark) (all_scalars (c ∷ []))
    (and-left (same_mark (mark_of c) mark && all_scalars (c ∷ [])) _ t) in
    let dark = and-right (same_mark (mark_of c) mark && all_scalars (c ∷ [])) (is_not_whitespace c)
    t in
    let rest = IsReadBack-marks variant case marks (and-right (is_printed mark) _ h) in
    rw same at (IsReadBack-more c (map (mark_char variant case) marks) marks scalar dark rest)

-- the minus sign
minus_scalar : (variant : ChineseVariant) → all_scalars (minus_char variant ∷ []) ≡ true
unfolding minus_char
minus_scalar Traditional = refl
minus_scalar Simple = refl

minus_dark : (variant : ChineseVariant) → is_not_whitespace (minus_char variant) ≡ true
unfolding minus_char
minus_dark Traditional = refl
minus_dark Simple = refl

pub minus_is_sign : (variant : ChineseVariant) → sign_of (minus_char variant) ≡ Some Minus
unfolding minus_char sign_of
minus_is_sign Traditional = refl
minus_is_sign Simple = refl

-- the part of a written text that is read is the whole text
pub text_of-signed_text : (variant : ChineseVariant) (case : ChineseCase) (negative : Bool) (marks : List Mark) → list_all is_printed marks ≡ true
    → text_of (signed_bytes variant case negative marks) ≡ signed_text variant case negative marks
text_of-signed_text variant case true marks h =
    let r = IsReadBack-more (minus_char variant) (map (mark_char variant case) marks) marks (minus_scalar variant) (minus_dark variant) (IsReadBack-marks variant case marks h) in
    ap (filter is_not_whitespace) (chars-encodes (signed_text variant case true marks) r.scalars) ∙ r.kept
text_of-signed_text variant case false marks h =
    let r = IsReadBack-marks variant case marks h in
    ap (filter is_not_whitespace) (chars-encodes (signed_text variant case false marks) r.scalars) ∙ r.kept

-- neither a digit nor 十 is a sign
digits_no_sign : (variant : ChineseVariant) (case : ChineseCase) → each_below (λ value. is_none (sign_of (digit_char variant case value))) 10 ≡ true
unfolding digit_char sign_of
digits_no_sign Traditional Upper = refl
digits_no_sign Traditional Lower = refl
digits_no_sign Simple Upper = refl
digits_no_sign Simple Lower = refl

ten_no_sign : (variant : ChineseVariant) (case : ChineseCase) → sign_of (unit_char variant case 1) ≡ None
unfolding unit_char sign_of
ten_no_sign Traditional Upper = refl
ten_no_sign Traditional Lower = refl
ten_no_sign Simple Upper = refl
ten_no_sign Simple Lower = refl

pub none_from_is_none : {A : Type 0} (o : Option A) → is_none o ≡ true → o ≡ None
none_from_is_none None h = refl
none_from_is_none (Some x) h = cc

-- so the first character of a numeral is not a sign
pub no_sign : (variant : ChineseVariant) (case : ChineseCase) (mark : Mark) (rest : List Mark) → is_printed mark ≡ true → starts_with_digit (with_first_digit (mark ∷ rest)) ≡ true
    → sign_of (mark_char variant case mark) ≡ None
no_sign variant case (digit value) rest h s =
    none_from_is_none _ (each_below-at (λ value. is_none (sign_of (digit_char variant case value))) 10 value (digits_no_sign variant case) (grind (arith, nat_tests)))
no_sign variant case (unit rank) rest h s = by (rank == 1) refl s where
  by : (b : Bool) → (rank == 1) ≡ b → starts_with_digit ((if b then digit 10 else unit rank) ∷ rest) ≡ true → sign_of (unit_char variant case rank) ≡ None
  by true e s = let ten : rank ≡ 1 = grind (arith, nat_tests) in rw ten (ten_no_sign variant case)
  by false e s = cc
no_sign variant case other rest h s = cc
