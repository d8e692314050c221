-- The marks of a spelling: digits below 10, and units whose scales fit 128 bits.
use Rattle.std.proofs.Common.{◌≡◌, ℕ, ◌*◌, ◌%◌, ◌^◌, ◌<◌, ◌≤◌, ℤ, nat_abs, Bool, true, false, not, ◌||◌, nat_lt, MatchBool, List, [], ◌∷◌, ◌++◌, Ok, length, refl, sym, ap, subst, ◌∙◌, arith}
use Rattle.std.proofs.Math.Nat.{pow-le-pow_right}
use Rattle.std.proofs.lemmas.Bool.{leb-true}
use Rattle.std.proofs.lemmas.Bool.Decides.{nat_tests}
use Rattle.std.specs.List.{list_all}
use Rattle.cn_core.specs.declared.method.ChineseCountMethod.{ChineseCountMethod}
use Rattle.cn_core.specs.declared.method.ChineseCountMethod.TheVariants.{Low, TenThousand, Middle, High}
use Rattle.cn_core.specs.Judge.{Judges, RefusesBody, numeral_answer, last_mark_answer}
use Rattle.cn_core.specs.Mark.{Mark, digit, unit, other}
use Rattle.cn_core.specs.Numeral.{IsNumeral, is_numeral}
use Rattle.cn_core.specs.Place.{body, is_unfit, some_unfit}
use Rattle.cn_core.specs.Scale.{scale, exponent, scale_fits}
use Rattle.cn_core.specs.Spelling.{spelling, spelling_within, after_unit}
use Rattle.cn_core.specs.Value.{numeral_value}
use Rattle.cn_core.specs.Printing.{is_printable}
use Rattle.cn_core.proofs.Beginnings.{beginning-is_numeral}
use Rattle.cn_core.proofs.Fronts.{and-left, and-right, both, list_all-both}
use Rattle.cn_core.proofs.ReadBack.{spelling-is_numeral}
use Rattle.cn_core.proofs.Spellings.{Spells-spelling_within, IsCut, after_unit-all, spelled-by, short_spelling-by}
use Rattle.cn_core.proofs.Sums.{all_below}
use Rattle.cn_spell.proofs.Printed.{is_printed}

-- each number of 128 bits that a method writes is below the square of the method's greatest scale
pub below_square : (method : ChineseCountMethod) (number : ℤ) → nat_abs number < 2 ^ 128
    → is_printable method number ≡ true → nat_abs number < scale method 15 * scale method 15
below_square Low number small h = let low : nat_abs number < 10 ^ 16 =
    grind (arith, nat_tests) in omega (arith, low)
below_square TenThousand number small h = omega (arith, small)
below_square Middle number small h = omega (arith, small)
below_square High number small h = let much : 2 ^ 128 ≤ scale High 15 * scale High 15 =
    leb-true _ _ refl in omega (arith, small, much)

-- a spelling has only digits below 10 and units
spelling_within-printed : (method : ChineseCountMethod) (steps number : ℕ) → number ≤ steps
    → number < scale method 15 * scale method 15
    → list_all is_printed (spelling_within steps method number) ≡ true
spelling_within-printed method = spelled-by method
    (λ number marks. list_all is_printed marks ≡ true) one step where
      one : (number : ℕ) → number < 10 → list_all is_printed (digit number ∷ []) ≡ true
      one number h = let low : nat_lt number 10 ≡ true = grind (arith, nat_tests) in rw low

      step : (number rank : ℕ) (front back : List Mark) → IsCut method number rank
          → list_all is_printed front ≡ true → list_all is_printed back ≡ true
          → list_all is_printed (front ++ unit rank
          ∷ after_unit (number % scale method rank) (scale method rank) back) ≡ true
      step number rank front back cut f b =
          let remainder = number % scale method rank in
          let high : nat_lt rank 16 ≡ true = let h = cut.high in grind (arith, nat_tests) in
          let after = after_unit-all is_printed remainder (scale method rank) back refl b in
          list_all-both is_printed front
          (unit rank ∷ after_unit remainder (scale method rank) back) f
          (both (nat_lt rank 16) _ high after)

pub spelling-printed : (method : ChineseCountMethod) (number : ℕ) → number
    < scale method 15 * scale method 15 → list_all is_printed (spelling method number) ≡ true
spelling-printed method number small =
    let h = spelling_within-printed method number number (omega arith) small in
    short_spelling-by (λ l. list_all is_printed l ≡ true) (spelling_within number method number) h
    (λ rest ten. ap (list_all is_printed) (sym ten) ∙ h)

-- a unit whose scale does not fit is greater than each number of 128 bits
unfit_scale : (method : ChineseCountMethod) (rank number : ℕ) → scale_fits method rank ≡ false
    → number < 2 ^ 128 → number < scale method rank
unfit_scale method rank number h small =
    let much : 39 ≤ exponent method rank = grind (arith, nat_tests) in
    let power : 10 ^ 39 ≤ 10 ^ exponent method rank = pow-le-pow_right (omega arith) much in
    let least : 2 ^ 128 ≤ 10 ^ 39 = leb-true _ _ refl in
    omega (arith, power, least, small)

fits-from_below : (method : ChineseCountMethod) (marks : List Mark)
    → ((rank : ℕ) → scale_fits method rank ≡ false → all_below rank marks ≡ true)
    → some_unfit method marks ≡ false
fits-from_below method [] h = refl
fits-from_below method (digit value ∷ rest) h = fits-from_below method rest h
fits-from_below method (other ∷ rest) h = fits-from_below method rest h
fits-from_below method (unit rank ∷ rest) h =
    by (scale_fits method rank) refl (fits-from_below method rest
    (λ more unfit. and-right (nat_lt rank more) _ (h more unfit))) where
      by : (b : Bool) → scale_fits method rank ≡ b → some_unfit method rest ≡ false
          → (not b || some_unfit method rest) ≡ false
      by true e ih = ih
      by false e ih = absurd (let low : nat_lt rank rank ≡ true =
          and-left (nat_lt rank rank) _ (h rank e) in let less : rank < rank =
          grind (arith, nat_tests) in omega (arith, less))

-- a spelling contains no unit whose scale does not fit
pub spelling-fits : (method : ChineseCountMethod) (number : ℕ) → number < 2 ^ 128 → number
    < scale method 15 * scale method 15 → some_unfit method (spelling method number) ≡ false
spelling-fits method number small square =
    let marks = spelling_within number method number in
    let h = fits-from_below method marks
    (λ rank unfit. (Spells-spelling_within method number number (omega arith) square).below
    rank (unfit_scale method rank number unfit small)) in
    short_spelling-by (λ l. some_unfit method l ≡ false) marks h
    (λ rest ten. ap (some_unfit method) (sym ten) ∙ h)

-- a prefix of a list without such a unit has no such unit
some_unfit-front : (method : ChineseCountMethod) (front back : List Mark)
    → some_unfit method (front ++ back) ≡ false → some_unfit method front ≡ false
some_unfit-front method [] back h = refl
some_unfit-front method (mark ∷ front) back h =
    by (is_unfit method mark) (some_unfit-front method front back) h where
      by : (b : Bool) → (some_unfit method (front ++ back) ≡ false
          → some_unfit method front ≡ false)
          → (b || some_unfit method (front ++ back)) ≡ false
          → (b || some_unfit method front) ≡ false
      by true ih h = h
      by false ih h = ih h

-- the judgement of a numeral whose scales and value fit is its value
pub Judges-numeral : (method : ChineseCountMethod) (marks : List Mark) (number : ℕ)
    → IsNumeral marks → some_unfit method marks ≡ false → numeral_value method marks ≡ number
    → number < 2 ^ 128
    → Judges method marks (Ok number)
Judges-numeral method [] number n f v small = cc
Judges-numeral method (mark ∷ rest) number n f v small =
    let test : nat_lt number (2 ^ 128) ≡ true = grind (arith, nat_tests) in
    subst (λ b. MatchBool b (Ok number ≡ numeral_answer method (mark ∷ rest))
    (MatchBool (is_numeral (body (mark ∷ rest)))
    (Ok number ≡ last_mark_answer method (mark ∷ rest)) (RefusesBody method
    (body (mark ∷ rest)) (Ok number))))
    (sym n) (rw (f, v, test))

-- so the judgement of a spelling is its number
pub Judges-spelling : (method : ChineseCountMethod) (number : ℕ) → number < 2 ^ 128 → number
    < scale method 15 * scale method 15 → Judges method (spelling method number) (Ok number)
Judges-spelling method number small square =
    let n = spelling-is_numeral method number square in
    Judges-numeral method (spelling method number) number n.0
    (spelling-fits method number small square) n.1 small

-- and the judgement of each prefix of a spelling is a number that is not greater
pub Judges-beginning : (method : ChineseCountMethod) (number : ℕ) (front back : List Mark)
    → number < 2 ^ 128 → number < scale method 15 * scale method 15 → 0 < length front
    → front ++ back ≡ spelling method number
    → Judges method front (Ok (numeral_value method front)) × (numeral_value method front ≤ number)
Judges-beginning method number front back small square some same =
    let n = beginning-is_numeral method number front back square some same in
    let fits = some_unfit-front method front back
    (ap (some_unfit method) same ∙ spelling-fits method number small square) in (
      Judges-numeral method front (numeral_value method front) n.0 fits refl
          (omega (arith, n.1, small)),
      n.1,
    )
