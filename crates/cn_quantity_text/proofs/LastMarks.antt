-- A spelling never ends in a digit that counts a tenth of a unit, as 一百二 does.
use Rattle.std.proofs.Common.{◌≡◌, ℕ, suc, ◌+◌, ◌*◌, ◌/◌, ◌%◌, ◌<◌, ◌≤◌, Bool, true, false, ◌&&◌, nat_le, is_some, List, [], ◌∷◌, ◌++◌, length, Option, Some, None, refl, sym, ap, ◌∙◌, arith, length-append}
use Rattle.std.specs.Option.{option_map_or}
use Rattle.std.proofs.lemmas.Bool.Decides.{nat_tests}
use Rattle.cn_core.specs.declared.method.ChineseCountMethod.{ChineseCountMethod}
use Rattle.cn_core.specs.Characters.{digit_of, rank_of}
use Rattle.cn_core.specs.Mark.{Mark, digit, unit, mark_from, mark_of}
use Rattle.cn_core.specs.Scale.{scale}
use Rattle.cn_core.specs.Spelling.{after_unit, spelling, spelling_within}
use Rattle.cn_core.specs.Text.{marks_of}
use Rattle.cn_core.proofs.ScaleLaws.{scale-mono, scale-ten}
use Rattle.cn_core.proofs.Spellings.{IsCut, after_unit-by, short_spelling-by, spelled-by}
use Rattle.cn_quantity.specs.Decimal.{ends_colloquially, is_great_unit}
use Rattle.cn_quantity.proofs.NumeralsAreQuantities.{digit-no_unit}

-- a unit from 百 up
abbrev is_great : Mark → Bool
is_great (unit rank) = nat_le 2 rank
is_great mark = false

abbrev pub is_digit : Mark → Bool
is_digit (digit value) = true
is_digit mark = false

-- the last mark is a digit directly after a unit from 百 up
abbrev ends_short : List Mark → Bool
ends_short (mark ∷ next ∷ []) = is_great mark && is_digit next
ends_short (mark ∷ next ∷ more ∷ rest) = ends_short (next ∷ more ∷ rest)
ends_short marks = false

great-mark : (c : ℕ) → is_great_unit c ≡ is_great (mark_of c)
great-mark c = by (digit_of c) (rank_of c) refl refl where
  by : (d r : Option ℕ) → digit_of c ≡ d → rank_of c ≡ r
      → option_map_or (λ rank. nat_le 2 rank) r false ≡ is_great (mark_from d r)
  by None None e f = refl
  by None (Some rank) e f = refl
  by (Some value) None e f = refl
  by (Some value) (Some rank) e f = let none = digit-no_unit c value e in cc

pub digit-as_mark : (c : ℕ) → is_some (digit_of c) ≡ is_digit (mark_of c)
digit-as_mark c = by (digit_of c) (rank_of c) where
  by : (d r : Option ℕ) → is_some d ≡ is_digit (mark_from d r)
  by None None = refl
  by None (Some rank) = refl
  by (Some value) r = refl

ends-marks : (text : List ℕ) → ends_colloquially text ≡ ends_short (marks_of text)
ends-marks [] = refl
ends-marks (c ∷ []) = refl
ends-marks (c ∷ d ∷ []) = rw (great-mark c, digit-as_mark d)
ends-marks (c ∷ d ∷ e ∷ rest) = ends-marks (d ∷ e ∷ rest)

-- only the last two marks matter
ends-behind : (mark : Mark) (rest : List Mark) → 2 ≤ length rest
    → ends_short (mark ∷ rest) ≡ ends_short rest
ends-behind mark [] h = absurd (omega (arith, h))
ends-behind mark (next ∷ []) h = absurd (omega (arith, h))
ends-behind mark (next ∷ more ∷ rest) h = refl

ends-back : (front back : List Mark) → 2 ≤ length back
    → ends_short (front ++ back) ≡ ends_short back
ends-back [] back h = refl
ends-back (mark ∷ front) back h =
    ends-behind mark (front ++ back) (omega (arith, h, length-append front back))
    ∙ ends-back front back h

ends-unit : (front : List Mark) (rank : ℕ) → ends_short (front ++ unit rank ∷ []) ≡ false
ends-unit [] rank = refl
ends-unit (mark ∷ []) rank = by (is_great mark) where
  by : (b : Bool) → (b && false) ≡ false
  by true = refl
  by false = refl
ends-unit (mark ∷ next ∷ front) rank =
    ends-behind mark (next ∷ front ++ unit rank ∷ [])
    (omega (arith, length-append front (unit rank ∷ [])))
    ∙ ends-unit (next ∷ front) rank

-- the end of a spelling: a number from 10 up has at least two marks
record IsEnded (number : ℕ) (marks : List Mark) : Type 0 where
  full : ends_short marks ≡ false
  some : 1 ≤ length marks
  many : 10 ≤ number → 2 ≤ length marks

IsEnded-digit : (number : ℕ) → number < 10 → IsEnded number (digit number ∷ [])
IsEnded-digit number low =
    record { full = refl; some = omega arith; many = λ h. absurd (omega (arith, low, h)) }

-- after a unit, a last digit is after 十 or 零
ends-one : (rank : ℕ) (back : List Mark) → ends_short back ≡ false → 1 ≤ length back
    → (2 ≤ rank → 2 ≤ length back) → ends_short (unit rank ∷ back) ≡ false
ends-one rank [] full some many = absurd (omega (arith, some))
ends-one rank (mark ∷ next ∷ rest) full some many = full
ends-one rank (mark ∷ []) full some many = by (nat_le 2 rank) refl where
  by : (b : Bool) → nat_le 2 rank ≡ b → (b && is_digit mark) ≡ false
  by false e = refl
  by true e =
      let great : 2 ≤ rank = grind (arith, nat_tests, e) in
      let two = many great in absurd (omega (arith, two))

ends-zero : (rank : ℕ) (back : List Mark) → ends_short back ≡ false → 1 ≤ length back
    → ends_short (unit rank ∷ digit 0 ∷ back) ≡ false
ends-zero rank [] full some = absurd (omega (arith, some))
ends-zero rank (mark ∷ []) full some = refl
ends-zero rank (mark ∷ next ∷ rest) full some = full

hundred : (method : ChineseCountMethod) (rank : ℕ) → 2 ≤ rank → 100 ≤ scale method rank
hundred method rank great =
    let ten = scale-ten method 1 (omega arith) in
    let more = scale-mono method 1 rank (omega (arith, great)) in
    omega (arith, ten, more)

IsEnded-unit : (method : ChineseCountMethod) (number rank : ℕ) (front back : List Mark)
    → IsCut method number rank → IsEnded (number / scale method rank) front
    → IsEnded (number % scale method rank) back
    → IsEnded number (front ++ unit rank
    ∷ after_unit (number % scale method rank) (scale method rank) back)
IsEnded-unit method number rank front back cut f b =
    after_unit-by (λ after. IsEnded number (front ++ unit rank ∷ after))
    (number % scale method rank) (scale method rank) back
    (λ none. ended [] (ends-unit front rank))
    (λ some gap. ended (digit 0 ∷ back)
    (behind (digit 0 ∷ back) (omega arith) (ends-zero rank back b.full b.some)))
    (λ some whole. ended back (behind back b.some (ends-one rank back b.full b.some
    (λ great. b.many (tenth great whole))))) where
      size : (after : List Mark) → length (front ++ unit rank ∷ after)
          ≡ length front + suc (length after)
      size after = length-append front (unit rank ∷ after)

      ended : (after : List Mark) → ends_short (front ++ unit rank ∷ after) ≡ false
          → IsEnded number (front ++ unit rank ∷ after)
      ended after full =
          let some = f.some in
          let all = size after in
          record { full = full; some = omega (arith, all); many = λ h. omega (arith, all, some) }

      behind : (after : List Mark) → 1 ≤ length after → ends_short (unit rank ∷ after) ≡ false
          → ends_short (front ++ unit rank ∷ after) ≡ false
      behind after some full = ends-back front (unit rank ∷ after) (omega (arith, some)) ∙ full

      tenth : 2 ≤ rank → scale method rank / 10 ≤ number % scale method rank
          → 10 ≤ number % scale method rank
      tenth great whole = let much = hundred method rank great in omega (arith, much, whole)

spelling-ended : (method : ChineseCountMethod) (number : ℕ)
    → number < scale method 15 * scale method 15 → ends_short (spelling method number) ≡ false
spelling-ended method number small =
    let h = spelled-by method IsEnded IsEnded-digit (IsEnded-unit method) number number
    (omega arith) small in
    short_spelling-by (λ marks. ends_short marks ≡ false) (spelling_within number method number)
    h.full (λ rest ten. short rest (ap ends_short (sym ten) ∙ h.full)) where
      short : (rest : List Mark) → ends_short (digit 1 ∷ unit 1 ∷ rest) ≡ false
          → ends_short (unit 1 ∷ rest) ≡ false
      short [] full = refl
      short (mark ∷ rest) full = full

-- the text of a spelling has the same end
pub spelled-ended : (method : ChineseCountMethod) (number : ℕ) (text : List ℕ)
    → number < scale method 15 * scale method 15 → marks_of text ≡ spelling method number
    → ends_colloquially text ≡ false
spelled-ended method number text small same =
    ends-marks text ∙ ap ends_short same ∙ spelling-ended method number small
