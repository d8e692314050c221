-- Every prefix of a spelling is a numeral whose value is at most the spelled number.
use Rattle.std.proofs.Common.{◌≡◌, ℕ, ◌*◌, ◌<◌, ◌≤◌, Bool, true, false, ◌&&◌, ◌==◌, nat_lt, List, [], ◌∷◌, ◌++◌, length, Some, if◌then◌else◌, refl, sym, subst, arith}
use Rattle.std.specs.List.{list_all}
use Rattle.std.specs.Option.{option_map_or}
use Rattle.std.proofs.lemmas.Bool.Decides.{nat_tests}
use Rattle.cn_core.specs.declared.method.ChineseCountMethod.{ChineseCountMethod}
use Rattle.cn_core.specs.Mark.{Mark, digit, unit, other}
use Rattle.cn_core.specs.Numeral.{IsNumeral, with_first_digit, may_precede, each_may_precede, starts_with_digit, first_not_smaller, groups_strictly, multiplies_upwards, counts_a_unit}
use Rattle.cn_core.specs.Scale.{scale}
use Rattle.cn_core.specs.Spelling.{spelling}
use Rattle.cn_core.specs.Value.{colloquial_value, numeral_value}
use Rattle.cn_core.proofs.Fronts.{and-left, and-right, both, list_all-front}
use Rattle.cn_core.proofs.Ends.{front-value}
use Rattle.cn_core.proofs.Grammar.{is_no_ge}
use Rattle.cn_core.proofs.ReadBack.{IsOpened, IsOpened-spelling}

-- if the rules hold of a mark and the marks to its right, they hold of it and a prefix of those,
-- except for 個
groups-front : (rank : ℕ) (front back : List Mark)
    → groups_strictly (unit rank) (front ++ back) ≡ true → groups_strictly (unit rank) front ≡ true
groups-front rank [] back h = refl
groups-front rank (digit value ∷ front) back h = groups-front rank front back h
groups-front rank (other ∷ front) back h = groups-front rank front back h
groups-front rank (unit next ∷ front) back h =
    by (nat_lt next rank) (groups-front rank front back) h where
      by : (b : Bool) → (groups_strictly (unit rank) (front ++ back) ≡ true
          → groups_strictly (unit rank) front ≡ true)
          → option_map_or (λ next. nat_lt rank next) (if b
          then first_not_smaller rank (front ++ back)
          else Some next) true ≡ true
          → option_map_or (λ next. nat_lt rank next) (if b then first_not_smaller rank front
          else Some next) true ≡ true
      by true ih h = ih h
      by false ih h = h

may_precede-front : (mark : Mark) (front back : List Mark) → is_no_ge mark ≡ true
    → may_precede mark (front ++ back) ≡ true → may_precede mark front ≡ true
may_precede-front other front back n h = cc
may_precede-front (digit value) [] back n h = refl
may_precede-front (digit value) (digit next ∷ front) back n h = h
may_precede-front (digit value) (unit next ∷ front) back n h = refl
may_precede-front (digit value) (other ∷ front) back n h = refl
may_precede-front (unit rank) [] back n h = let above : (rank == 0) ≡ false =
    grind (arith, nat_tests) in rw above
may_precede-front (unit rank) (mark ∷ front) back n h = kept mark h where
  rest : (a : Bool) (mark : Mark) → (a && groups_strictly (unit rank) (mark ∷ front ++ back))
      ≡ true → (a && groups_strictly (unit rank) (mark ∷ front)) ≡ true
  rest a mark h = both a _ (and-left a _ h)
      (groups-front rank (mark ∷ front) back (and-right a _ h))

  kept : (mark : Mark) → may_precede (unit rank) (mark ∷ front ++ back) ≡ true
      → may_precede (unit rank) (mark ∷ front) ≡ true
  kept (digit value) h = rest (counts_a_unit (unit rank) (digit value ∷ front)) (digit value) h
  kept (unit next) h = rest (multiplies_upwards (unit rank) (unit next ∷ front)
      && counts_a_unit (unit rank) (unit next ∷ front)) (unit next) h
  kept other h = rest (counts_a_unit (unit rank) (other ∷ front)) other h

each-front : (front back : List Mark) → list_all is_no_ge front ≡ true
    → each_may_precede (front ++ back) ≡ true → each_may_precede front ≡ true
each-front [] back n h = refl
each-front (mark ∷ front) back n h =
    both (may_precede mark front) _ (may_precede-front mark front back
    (and-left (is_no_ge mark) _ n) (and-left (may_precede mark (front ++ back)) _ h))
    (each-front front back (and-right (is_no_ge mark) _ n)
    (and-right (may_precede mark (front ++ back)) _ h))

-- whether a list starts with a digit depends only on its first mark
pub starts-alike : (mark : Mark) (one second : List Mark) → starts_with_digit (mark ∷ one) ≡ true
    → starts_with_digit (mark ∷ second) ≡ true
starts-alike (digit value) one second h = refl
starts-alike (unit rank) one second h = cc
starts-alike other one second h = cc

IsOpened-front : (method : ChineseCountMethod) (number : ℕ) (mark : Mark) (front back : List Mark)
    → IsOpened method number (mark ∷ front ++ back)
    → ((starts_with_digit (mark ∷ front) && each_may_precede (mark ∷ front)) ≡ true)
    × (colloquial_value method (mark ∷ front) ≤ number)
IsOpened-front method number mark front back h = (
  both (starts_with_digit (mark ∷ front)) _ (starts-alike mark (front ++ back) front h.starts)
      (each-front (mark ∷ front) back (list_all-front is_no_ge (mark ∷ front) back h.no_ge)
      h.rules),
  subst (λ n. colloquial_value method (mark ∷ front) ≤ n) h.sum
      (front-value method (mark ∷ front) back h.ends),
)

pub beginning-is_numeral : (method : ChineseCountMethod) (number : ℕ) (front back : List Mark)
    → number < scale method 15 * scale method 15 → 0 < length front
    → front ++ back ≡ spelling method number
    → IsNumeral front × (numeral_value method front ≤ number)
beginning-is_numeral method number front back small some same =
    by front some (subst (λ l. IsOpened method number (with_first_digit l)) (sym same)
    (IsOpened-spelling method number small)) where
      by : (front : List Mark) → 0 < length front
          → IsOpened method number (with_first_digit (front ++ back))
          → IsNumeral front × (numeral_value method front ≤ number)
      by [] some h = absurd (omega (arith, some))
      by (digit value ∷ front) some h = IsOpened-front method number (digit value) front back h
      by (unit rank ∷ front) some h = IsOpened-front method number
          (if rank == 1 then digit 10 else unit rank) front back h
      by (other ∷ front) some h = IsOpened-front method number other front back h
