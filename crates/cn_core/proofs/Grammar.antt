-- A spelling keeps the rules of numerals.
use Rattle.std.proofs.Common.{◌≡◌, ℕ, ◌*◌, ◌%◌, ◌/◌, ◌<◌, ◌≤◌, Bool, true, false, ◌&&◌, ◌==◌, nat_le, nat_lt, List, [], ◌∷◌, ◌++◌, Some, None, refl, arith, if◌then◌else◌}
use Rattle.std.specs.Option.{option_map_or}
use Rattle.std.proofs.lemmas.Bool.Decides.{nat_tests}
use Rattle.std.specs.List.{list_all}
use Rattle.cn_core.specs.declared.method.ChineseCountMethod.{ChineseCountMethod}
use Rattle.cn_core.specs.Mark.{Mark, digit, unit, other}
use Rattle.cn_core.specs.Numeral.{may_precede, each_may_precede, starts_with_digit, first_not_smaller, groups_strictly, multiplies_upwards, counts_a_unit}
use Rattle.cn_core.specs.Place.{is_below}
use Rattle.cn_core.specs.Scale.{scale}
use Rattle.cn_core.specs.Spelling.{spelling_within, after_unit}
use Rattle.cn_core.proofs.Fronts.{and-left, and-right, both, list_all-both, zero_precedes}
use Rattle.cn_core.proofs.Sums.{all_below}
use Rattle.cn_core.proofs.Spellings.{Spells, Spells-digit, Spells-step, IsCut, after_unit-by, after_unit-all, spelled-by}

-- a greater unit further to the right breaks no group
groups-more : (rank more : ℕ) (rest back : List Mark) → nat_lt rank more ≡ true
    → option_map_or (λ next. nat_lt rank next) (first_not_smaller rank rest) true ≡ true
    → option_map_or (λ next. nat_lt rank next) (first_not_smaller rank (rest ++ unit more ∷ back))
    true ≡ true
groups-more rank more [] back less h = let test : nat_lt more rank ≡ false =
    grind (arith, nat_tests) in rw test less
groups-more rank more (digit value ∷ rest) back less h = groups-more rank more rest back less h
groups-more rank more (other ∷ rest) back less h = groups-more rank more rest back less h
groups-more rank more (unit next ∷ rest) back less h =
    by (nat_lt next rank) (groups-more rank more rest back less) h where
      by : (b : Bool) → (option_map_or (λ next. nat_lt rank next) (first_not_smaller rank rest) true
          ≡ true → option_map_or (λ next. nat_lt rank next) (first_not_smaller rank
          (rest ++ unit more ∷ back)) true ≡ true)
          → option_map_or (λ next. nat_lt rank next) (if b then first_not_smaller rank rest
          else Some next) true ≡ true
          → option_map_or (λ next. nat_lt rank next) (if b
          then first_not_smaller rank (rest ++ unit more ∷ back) else Some next) true ≡ true
      by true ih h = ih h
      by false ih h = h

-- and it breaks no other rule on the marks before it
may_precede-more : (mark : Mark) (rest back : List Mark) (more : ℕ) → is_below more mark ≡ true
    → may_precede mark rest ≡ true → may_precede mark (rest ++ unit more ∷ back) ≡ true
may_precede-more other rest back more low h = cc
may_precede-more (digit value) [] back more low h = refl
may_precede-more (digit value) (digit next ∷ rest) back more low h = h
may_precede-more (digit value) (unit next ∷ rest) back more low h = refl
may_precede-more (digit value) (other ∷ rest) back more low h = refl
may_precede-more (unit rank) [] back more low h = let test : nat_lt more rank ≡ false =
    grind (arith, nat_tests) in rw (test, low) (either (rank == 0)) where
      either : (b : Bool) → ((if b then true else true) && true) ≡ true
      either true = refl
      either false = refl
may_precede-more (unit rank) (digit value ∷ rest) back more low h =
    both (multiplies_upwards (unit rank) (digit value ∷ rest)
    && counts_a_unit (unit rank) (digit value ∷ rest)) _
    (and-left (multiplies_upwards (unit rank) (digit value ∷ rest)
    && counts_a_unit (unit rank) (digit value ∷ rest)) (groups_strictly (unit rank)
    (digit value ∷ rest)) h)
    (groups-more rank more (digit value ∷ rest) back low
    (and-right (multiplies_upwards (unit rank) (digit value ∷ rest)
    && counts_a_unit (unit rank) (digit value ∷ rest)) _ h))
may_precede-more (unit rank) (unit next ∷ rest) back more low h =
    both (multiplies_upwards (unit rank) (unit next ∷ rest)
    && counts_a_unit (unit rank) (unit next ∷ rest)) _
    (and-left (multiplies_upwards (unit rank) (unit next ∷ rest)
    && counts_a_unit (unit rank) (unit next ∷ rest)) (groups_strictly (unit rank)
    (unit next ∷ rest)) h)
    (groups-more rank more (unit next ∷ rest) back low
    (and-right (multiplies_upwards (unit rank) (unit next ∷ rest)
    && counts_a_unit (unit rank) (unit next ∷ rest)) _ h))
may_precede-more (unit rank) (other ∷ rest) back more low h =
    both (multiplies_upwards (unit rank) (other ∷ rest)
    && counts_a_unit (unit rank) (other ∷ rest)) _
    (and-left (multiplies_upwards (unit rank) (other ∷ rest)
    && counts_a_unit (unit rank) (other ∷ rest)) (groups_strictly (unit rank) (other ∷ rest)) h)
    (groups-more rank more (other ∷ rest) back low
    (and-right (multiplies_upwards (unit rank) (other ∷ rest)
    && counts_a_unit (unit rank) (other ∷ rest)) _ h))

each-closed : (rank : ℕ) (front back : List Mark) → all_below rank front ≡ true
    → each_may_precede front ≡ true → may_precede (unit rank) back ≡ true
    → each_may_precede back ≡ true
    → each_may_precede (front ++ unit rank ∷ back) ≡ true
each-closed rank [] back low f u b = rw (u, b)
each-closed rank (mark ∷ front) back low f u b =
    let first = may_precede-more mark front back rank (and-left (is_below rank mark) _ low)
    (and-left (may_precede mark front) _ f) in
    rw first (each-closed rank front back (and-right (is_below rank mark) _ low)
    (and-right (may_precede mark front) _ f) u b)

none_below : (rank : ℕ) (marks : List Mark) → all_below rank marks ≡ true
    → first_not_smaller rank marks ≡ None
none_below rank [] h = refl
none_below rank (digit value ∷ rest) h = none_below rank rest h
none_below rank (other ∷ rest) h = none_below rank rest h
none_below rank (unit next ∷ rest) h = rw (and-left (nat_lt next rank) _ h) (none_below rank rest
    (and-right (nat_lt next rank) _ h))

-- the marks that follow a unit in a spelling: none, or a list that starts with a digit
abbrev may_follow : List Mark → Bool
may_follow [] = true
may_follow marks = starts_with_digit marks

unit_precedes : (rank : ℕ) (back : List Mark) → 1 ≤ rank → may_follow back ≡ true
    → all_below rank back ≡ true → may_precede (unit rank) back ≡ true
unit_precedes rank [] low h b = let test : (rank == 0) ≡ false = grind (arith, nat_tests) in rw test
unit_precedes rank (digit value ∷ rest) low h b = let test : (rank == 0) ≡ false =
    grind (arith, nat_tests) in rw (test, none_below rank rest b)
unit_precedes rank (unit next ∷ rest) low h b = cc
unit_precedes rank (other ∷ rest) low h b = cc

-- the mark is not 個
abbrev pub is_no_ge : Mark → Bool
is_no_ge (unit rank) = nat_le 1 rank
is_no_ge mark = true

-- the properties of a spelling: it has the value of its number, keeps the rules, starts with a
-- digit and has no 個
pub record IsRegular (method : ChineseCountMethod) (number : ℕ) (marks : List Mark) : Type 0 where
  pub spells : Spells method number marks
  pub rules : each_may_precede marks ≡ true
  pub starts : starts_with_digit marks ≡ true
  pub no_ge : list_all is_no_ge marks ≡ true

starts-follow : (marks : List Mark) → starts_with_digit marks ≡ true → may_follow marks ≡ true
starts-follow [] h = refl
starts-follow (mark ∷ rest) h = h

starts-append : (xs ys : List Mark) → starts_with_digit xs ≡ true
    → starts_with_digit (xs ++ ys) ≡ true
starts-append [] ys h = cc
starts-append (digit value ∷ xs) ys h = refl
starts-append (unit rank ∷ xs) ys h = cc
starts-append (other ∷ xs) ys h = cc

IsRegular-step : (method : ChineseCountMethod) (number rank : ℕ) (front back : List Mark)
    → IsCut method number rank
    → IsRegular method (number / scale method rank) front
    → IsRegular method (number % scale method rank) back
    → IsRegular method number (front ++ unit rank
    ∷ after_unit (number % scale method rank) (scale method rank) back)
IsRegular-step method number rank front back cut f b =
    let remainder = number % scale method rank in
    let size = scale method rank in
    let after = after_unit remainder size back in
    let rules : each_may_precede after ≡ true =
    after_unit-by (λ l. each_may_precede l ≡ true) remainder size back
    (λ none. refl) (λ some gap. rw (zero_precedes back) b.rules) (λ some full. b.rules) in
    let follows : may_follow after ≡ true =
    after_unit-by (λ l. may_follow l ≡ true) remainder size back
    (λ none. refl) (λ some gap. refl) (λ some full. starts-follow back b.starts) in
    let low = after_unit-all (is_below rank) remainder size back refl
    (b.spells.below rank cut.remainder) in
    let no_ge = after_unit-all is_no_ge remainder size back refl b.no_ge in
    let above : nat_le 1 rank ≡ true = let l = cut.low in grind (arith, nat_tests) in
    record {
      spells = Spells-step method number rank front back cut f.spells b.spells;
      rules = each-closed rank front after (f.spells.below rank cut.quotient) f.rules
          (unit_precedes rank after cut.low follows low) rules;
      starts = starts-append front (unit rank ∷ after) f.starts;
      no_ge = list_all-both is_no_ge front (unit rank ∷ after) f.no_ge
          (both (nat_le 1 rank) _ above no_ge);
    }

pub IsRegular-spelling_within : (method : ChineseCountMethod) (steps number : ℕ) → number ≤ steps
    → number < scale method 15 * scale method 15
    → IsRegular method number (spelling_within steps method number)
IsRegular-spelling_within method =
    spelled-by method (IsRegular method)
    (λ number low. record {
      spells = Spells-digit method number;
      rules = refl;
      starts =
          refl;
      no_ge = refl;
    }) (IsRegular-step method)
