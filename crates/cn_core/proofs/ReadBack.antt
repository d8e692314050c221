-- Every spelling is a numeral whose value is the spelled number.
use Rattle.std.proofs.Common.{◌≡◌, ℕ, ◌+◌, ◌*◌, ◌/◌, ◌<◌, ◌≤◌, Bool, true, false, ◌&&◌, nat_lt, List, [], ◌∷◌, map, refl, sym, ap, subst, ◌∙◌, arith, append-nil, if◌then◌else◌}
use Rattle.std.specs.Option.{option_map_or}
use Rattle.std.specs.List.{list_all}
use Rattle.std.proofs.lemmas.Bool.Decides.{nat_tests}
use Rattle.std.proofs.Math.Nat.{mul-le-mul_left, le-div_iff_mul-le}
use Rattle.cn_core.specs.declared.method.ChineseCountMethod.{ChineseCountMethod}
use Rattle.cn_core.specs.declared.method.ChineseCountMethod.TheVariants.{Low, TenThousand, Middle, High}
use Rattle.cn_core.specs.Mark.{Mark, digit, unit, other}
use Rattle.cn_core.specs.Numeral.{IsNumeral, with_first_digit, may_precede, each_may_precede, starts_with_digit, first_not_smaller, groups_strictly, multiplies_upwards, counts_a_unit}
use Rattle.cn_core.specs.Scale.{scale}
use Rattle.cn_core.specs.Spelling.{spelling, spelling_within}
use Rattle.cn_core.specs.Value.{value, colloquial_value, numeral_value, weight, product, records_from}
use Rattle.cn_core.proofs.Fronts.{and-left, and-right, both}
use Rattle.cn_core.proofs.ScaleLaws.{scale-ten}
use Rattle.cn_core.proofs.Ends.{EachOutweighsEnd, front-value, IsLed-spelling_within}
use Rattle.cn_core.proofs.Spellings.{short_spelling-by}
use Rattle.cn_core.proofs.Grammar.{is_no_ge, IsRegular-spelling_within}

-- the colloquial value is at least the value: a last digit after a unit counts at least as much
value-colloquial : (method : ChineseCountMethod) (marks : List Mark)
    → value method marks ≤ colloquial_value method marks
value-colloquial method [] = omega arith
value-colloquial method (digit number ∷ rest) = let ih =
    value-colloquial method rest in omega (arith, ih)
value-colloquial method (other ∷ rest) = value-colloquial method rest
value-colloquial method (unit rank ∷ []) = omega arith
value-colloquial method (unit rank ∷ unit next ∷ rest) = value-colloquial method (unit next ∷ rest)
value-colloquial method (unit rank ∷ other ∷ rest) = value-colloquial method (other ∷ rest)
value-colloquial method (unit rank ∷ digit number ∷ []) = by (nat_lt rank 2) refl where
  by : (b : Bool) → nat_lt rank 2 ≡ b
      → number * 1 + 0 ≤ (if b then number else number * scale method rank / 10)
  by true low = omega arith
  by false high =
      let ten : 10 ≤ scale method rank =
      scale-ten method rank (let up : 2 ≤ rank =
      grind (arith, nat_tests) in omega (arith, up)) in
      let tenfold : number * 10 ≤ number * scale method rank = mul-le-mul_left number ten in
      (le-div_iff_mul-le (omega arith)).1 (omega (arith, tenfold))
value-colloquial method (unit rank ∷ digit number ∷ mark ∷ rest) =
    value-colloquial method (digit number ∷ mark ∷ rest)

-- if 十 may precede the list and the list has no 個, its first record is above 十
records-above_ten : (rest : List Mark) → list_all is_no_ge rest ≡ true
    → option_map_or (λ next. nat_lt 1 next) (first_not_smaller 1 rest) true ≡ true
    → records_from 2 rest ≡ records_from 0 rest
records-above_ten [] n h = refl
records-above_ten (digit value ∷ rest) n h = records-above_ten rest n h
records-above_ten (other ∷ rest) n h = records-above_ten rest n h
records-above_ten (unit rank ∷ rest) n h = grind (arith, nat_tests, n, h)

scale_ten : (method : ChineseCountMethod) → scale method 1 ≡ 10
scale_ten Low = refl
scale_ten TenThousand = refl
scale_ten Middle = refl
scale_ten High = refl

-- the properties of a spelling after a first 十 is replaced by the digit ten
pub record IsOpened (method : ChineseCountMethod) (number : ℕ) (marks : List Mark) : Type 0 where
  pub sum : value method marks ≡ number
  pub rules : each_may_precede marks ≡ true
  pub starts : starts_with_digit marks ≡ true
  pub no_ge : list_all is_no_ge marks ≡ true
  pub ends : EachOutweighsEnd method marks

IsOpened-ten : (method : ChineseCountMethod) (number : ℕ) (rest : List Mark)
    → IsOpened method number (digit 1 ∷ unit 1 ∷ rest) → IsOpened method number (digit 10 ∷ rest)
IsOpened-ten method number rest h =
    let ten_rules : may_precede (unit 1) rest ≡ true =
    and-left (may_precede (unit 1) rest) _ h.rules in
    let group = and-right (multiplies_upwards (unit 1) rest && counts_a_unit (unit 1) rest)
    (groups_strictly (unit 1) rest) ten_rules in
    let heavy : weight method (unit 1 ∷ rest) ≡ 10 * weight method rest =
    ap (λ r. scale method 1 * product (map (scale method) r))
    (records-above_ten rest h.no_ge group)
    ∙ ap (λ s. s * weight method rest) (scale_ten method) in
    let sums : 1 * weight method (unit 1 ∷ rest) + value method rest ≡ number = h.sum in
    record {
      sum = omega (arith, heavy, sums);
      rules = rw (ten_precedes rest) (and-right (may_precede (unit 1) rest) _ h.rules);
      starts = refl;
      no_ge = h.no_ge;
      ends = (tt, h.ends.1.1);
    } where
      ten_precedes : (rest : List Mark) → may_precede (digit 10) rest ≡ true
      ten_precedes [] = refl
      ten_precedes (digit value ∷ rest) = refl
      ten_precedes (unit rank ∷ rest) = refl
      ten_precedes (other ∷ rest) = refl

with_first_digit-digit : (marks : List Mark) → starts_with_digit marks ≡ true
    → with_first_digit marks ≡ marks
with_first_digit-digit [] h = cc
with_first_digit-digit (digit value ∷ rest) h = refl
with_first_digit-digit (unit rank ∷ rest) h = cc
with_first_digit-digit (other ∷ rest) h = cc

pub IsOpened-spelling : (method : ChineseCountMethod) (number : ℕ) → number < scale method 15
    * scale method 15 → IsOpened method number (with_first_digit (spelling method number))
IsOpened-spelling method number small =
    let regular = IsRegular-spelling_within method number number (omega arith) small in
    let marks = spelling_within number method number in
    let h : IsOpened method number marks = record {
      sum = regular.spells.sum;
      rules = regular.rules;
      starts = regular.starts;
      no_ge = regular.no_ge;
      ends = (IsLed-spelling_within method number number (omega arith) small).ends;
    } in
    short_spelling-by (λ l. IsOpened method number (with_first_digit l)) marks
    (subst (IsOpened method number) (sym (with_first_digit-digit marks h.starts)) h)
    (λ rest ten. IsOpened-ten method number rest (subst (IsOpened method number) ten h))

-- every spelling is a numeral whose value is the spelled number
pub spelling-is_numeral : (method : ChineseCountMethod) (number : ℕ)
    → number < scale method 15 * scale method 15
    → IsNumeral (spelling method number) × (numeral_value method (spelling method number) ≡ number)
spelling-is_numeral method number small =
    let marks = with_first_digit (spelling method number) in
    let h = IsOpened-spelling method number small in
    let most : colloquial_value method marks ≤ value method marks =
    rw append-nil at (front-value method marks [] (rw append-nil h.ends)) in
    (both _ _ h.starts h.rules, omega (arith, most, value-colloquial method marks, h.sum))
