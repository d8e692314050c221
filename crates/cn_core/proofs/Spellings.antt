-- The value of a spelling is the spelled number.
use Rattle.std.proofs.Common.{◌≡◌, ℕ, zero, suc, ◌+◌, ◌*◌, ◌/◌, ◌%◌, ◌<◌, ◌≤◌, Bool, true, false, ◌&&◌, ◌==◌, nat_lt, List, [], ◌∷◌, ◌++◌, refl, ap, ap₂, ◌∙◌, arith, if◌then◌else◌}
use Rattle.std.specs.List.{list_all}
use Rattle.std.proofs.lemmas.Bool.Decides.{nat_tests}
use Rattle.std.proofs.Math.Nat.{mul-le-mul_left, lt_of_mul-lt-mul_right, div-mul-le_self}
use Rattle.std.proofs.Math.Decide.{dec_lt}
use Rattle.cn_core.specs.declared.method.ChineseCountMethod.{ChineseCountMethod}
use Rattle.cn_core.specs.Mark.{Mark, digit, unit, other}
use Rattle.cn_core.specs.Place.{is_below}
use Rattle.cn_core.specs.Scale.{scale}
use Rattle.cn_core.specs.Spelling.{spelling_within, greatest_unit, after_unit, short_spelling}
use Rattle.cn_core.specs.Value.{value}
use Rattle.cn_core.proofs.Fronts.{and-left, and-right, both, list_all-both}
use Rattle.cn_core.proofs.ScaleLaws.{IsGreatest-unit, greatest-scale, greatest-square, scale-ten, scale-mono}
use Rattle.cn_core.proofs.Sums.{all_below, value-closed, spelled-digit}

-- the properties of the parts of a spelling
pub record Spells (method : ChineseCountMethod) (number : ℕ) (marks : List Mark) : Type 0 where
  pub sum : value method marks ≡ number
  pub below : (rank : ℕ) → number < scale method rank → all_below rank marks ≡ true

pub Spells-digit : (method : ChineseCountMethod) (number : ℕ)
    → Spells method number (digit number ∷ [])
Spells-digit method number = record { sum = omega arith; below = λ rank h. refl }

-- a property of each list that can follow a unit is a property of the list that does
pub after_unit-by : (P : List Mark → Type 0) (remainder size : ℕ) (marks : List Mark)
    → (remainder ≡ 0 → P []) → (0 < remainder → remainder < size / 10 → P (digit 0 ∷ marks))
    → (0 < remainder → size / 10 ≤ remainder → P marks) → P (after_unit remainder size marks)
after_unit-by P remainder size marks none gap full =
    by (dec_lt 0 remainder) (dec_lt remainder (size / 10)) where
      by : Dec (0 < remainder) → Dec (remainder < size / 10) → P (after_unit remainder size marks)
      by (no nothing) less =
          let e : remainder ≡ 0 = omega (arith, nothing) in
          let a : nat_lt 0 remainder ≡ false = grind (arith, nat_tests) in
          let b : (remainder == 0) ≡ true = grind (arith, nat_tests) in
          rw (a, b) (none e)
      by (yes some) (yes less) =
          let a : nat_lt 0 remainder ≡ true = grind (arith, nat_tests) in
          let b : (remainder == 0) ≡ false = grind (arith, nat_tests) in
          let c : nat_lt remainder (size / 10) ≡ true = grind (arith, nat_tests) in
          rw (a, b, c) (gap some less)
      by (yes some) (no more) =
          let a : nat_lt 0 remainder ≡ true = grind (arith, nat_tests) in
          let b : (remainder == 0) ≡ false = grind (arith, nat_tests) in
          let c : nat_lt remainder (size / 10) ≡ false = grind (arith, nat_tests) in
          rw (a, b, c) (full some (omega (arith, more)))

after_unit-sum : (method : ChineseCountMethod) (remainder size : ℕ) (marks : List Mark)
    → Spells method remainder marks → value method (after_unit remainder size marks) ≡ remainder
after_unit-sum method remainder size marks h =
    after_unit-by (λ l. value method l ≡ remainder) remainder size marks
    (λ none. omega (arith, none)) (λ some gap. omega (arith, h.sum)) (λ some full. h.sum)

-- a test that 零 and each mark of a remainder's spelling pass is passed by each mark after the unit
pub after_unit-all : (test : Mark → Bool) (remainder size : ℕ) (marks : List Mark) → test (digit 0)
    ≡ true → list_all test marks ≡ true → list_all test (after_unit remainder size marks) ≡ true
after_unit-all test remainder size marks none h =
    after_unit-by (λ l. list_all test l ≡ true) remainder size marks
    (λ nothing. refl) (λ some gap. both (test (digit 0)) _ none h) (λ some full. h)

pub spelled-step : (steps : ℕ) (method : ChineseCountMethod) (number : ℕ) → 10 ≤ number
    → spelling_within (suc steps) method number
    ≡ spelling_within steps method (number / scale method (greatest_unit method number))
    ++ unit (greatest_unit method number)
    ∷ after_unit (number % scale method (greatest_unit method number))
    (scale method (greatest_unit method number))
    (spelling_within steps method (number % scale method (greatest_unit method number)))
spelled-step steps method number h = let test : nat_lt number 10 ≡ false =
    grind (arith, nat_tests) in rw (test, spelling_within)

-- a number cut at its greatest unit, and its two parts
pub record IsCut (method : ChineseCountMethod) (number rank : ℕ) : Type 0 where
  pub low : 1 ≤ rank
  pub high : rank ≤ 15
  pub size : scale method rank ≤ number
  pub ten : 10 ≤ scale method rank
  pub sum : number / scale method rank * scale method rank + number % scale method rank ≡ number
  pub quotient : number / scale method rank < scale method rank
  pub remainder : number % scale method rank < scale method rank
  pub smaller : number / scale method rank < number

pub IsCut-greatest : (method : ChineseCountMethod) (number : ℕ) → 10 ≤ number
    → number < scale method 15 * scale method 15 → IsCut method number (greatest_unit method number)
IsCut-greatest method number h small =
    let rank = greatest_unit method number in
    let size : scale method rank ≤ number = greatest-scale method number h in
    let g = IsGreatest-unit method number h in
    let ten : 10 ≤ scale method rank = scale-ten method rank g.low in
    let back : number / scale method rank * scale method rank ≤ number =
    div-mul-le_self number (scale method rank) in
    let square : number < scale method rank * scale method rank =
    greatest-square method number h small in
    let quotient : number / scale method rank < scale method rank =
    lt_of_mul-lt-mul_right (scale method rank) (omega (arith, back, square)) in
    let tenfold : number / scale method rank * 10 ≤ number / scale method rank
    * scale method rank = mul-le-mul_left (number / scale method rank) ten in
    record {
      low = g.low;
      high = g.high;
      size = size;
      ten = ten;
      sum = omega (arith, ten);
      quotient = quotient;
      remainder = omega (arith, ten);
      smaller = omega (arith, tenfold, back, h);
    }

-- a property of each one-digit spelling, and of a spelling if its parts at a unit have it, is a
-- property of each spelling
pub spelled-by : (method : ChineseCountMethod) (P : ℕ → List Mark → Type 0)
    → ((number : ℕ) → number < 10 → P number (digit number ∷ []))
    → ((number rank : ℕ) (front back : List Mark) → IsCut method number rank
    → P (number / scale method rank) front → P (number % scale method rank) back
    → P number (front ++ unit rank
    ∷ after_unit (number % scale method rank) (scale method rank) back))
    → (steps number : ℕ) → number ≤ steps → number < scale method 15 * scale method 15
    → P number (spelling_within steps method number)
spelled-by method P one step zero number fuel small = one number (omega (arith, fuel))
spelled-by method P one step (suc steps) number fuel small =
    by (dec_lt number 10) (spelled-by method P one step steps) where
      by : Dec (number < 10) → ((n : ℕ) → n ≤ steps → n < scale method 15 * scale method 15
          → P n (spelling_within steps method n))
          → P number (spelling_within (suc steps) method number)
      by (yes h) rest = rw (spelled-digit (suc steps) method number h) (one number h)
      by (no h) rest =
          let ten : 10 ≤ number = omega (arith, h) in
          let cut = IsCut-greatest method number ten small in
          let size = scale method (greatest_unit method number) in
          rw (spelled-step steps method number ten)
          (step number (greatest_unit method number) _ _ cut
          (rest (number / size) (omega (arith, cut.smaller, fuel))
          (omega (arith, cut.smaller, small)))
          (rest (number % size) (omega (arith, cut.remainder, cut.size, fuel))
          (omega (arith, cut.remainder, cut.size, small))))

rank_less : (method : ChineseCountMethod) (low high : ℕ) → scale method low < scale method high
    → low < high
rank_less method low high h = elim (dec_lt low high) [
  | yes less ↦ less
  | no more ↦ elim (dec_lt high low) [
    | yes up ↦ absurd (let p = scale-mono method high low up in omega (arith, p, h))
    | no same ↦ let e : low ≡ high = omega (arith, more, same)
        in absurd (let k : scale method low ≡ scale method high =
        ap (scale method) e in omega (arith, k, h))
  ]
]

pub Spells-step : (method : ChineseCountMethod) (number rank : ℕ) (front back : List Mark)
    → IsCut method number rank
    → Spells method (number / scale method rank) front
    → Spells method (number % scale method rank) back
    → Spells method number (front ++ unit rank
    ∷ after_unit (number % scale method rank) (scale method rank) back)
Spells-step method number rank front back cut f b = record {
  sum = value-closed method rank front (after_unit (number % scale method rank) (scale method rank)
      back) (f.below rank cut.quotient)
      (after_unit-all (is_below rank) (number % scale method rank) (scale method rank) back refl
      (b.below rank cut.remainder))
      ∙ ap₂ (λ x y. x * scale method rank + y) f.sum
      (after_unit-sum method (number % scale method rank) (scale method rank) back b)
      ∙ cut.sum;
  below = below;
} where
  below : (more : ℕ) → number < scale method more
      → all_below more (front ++ unit rank
      ∷ after_unit (number % scale method rank) (scale method rank) back) ≡ true
  below more h =
      let less : rank < more = rank_less method rank more (omega (arith, h, cut.size)) in
      let test : nat_lt rank more ≡ true = grind (arith, nat_tests) in
      list_all-both (is_below more) front
      (unit rank ∷ after_unit (number % scale method rank) (scale method rank)
      back) (f.below more (omega (arith, h, cut.smaller)))
      (rw test (after_unit-all (is_below more) (number % scale method rank) (scale method rank)
      back refl (b.below more (omega (arith, h, cut.size, cut.remainder)))))

pub Spells-spelling_within : (method : ChineseCountMethod) (steps number : ℕ) → number ≤ steps
    → number < scale method 15 * scale method 15
    → Spells method number (spelling_within steps method number)
Spells-spelling_within method = spelled-by method (Spells method)
    (λ number low. Spells-digit method number) (Spells-step method)

-- a property of a list, and of the list that it becomes if a first 一十 is shortened, is a property
-- of the shortened list
pub short_spelling-by : (P : List Mark → Type 0) (marks : List Mark) → P marks
    → ((rest : List Mark) → marks ≡ digit 1 ∷ unit 1 ∷ rest → P (unit 1 ∷ rest))
    → P (short_spelling marks)
short_spelling-by P [] h ten = h
short_spelling-by P (unit rank ∷ rest) h ten = h
short_spelling-by P (other ∷ rest) h ten = h
short_spelling-by P (digit first ∷ []) h ten = h
short_spelling-by P (digit first ∷ digit second ∷ rest) h ten = h
short_spelling-by P (digit first ∷ other ∷ rest) h ten = h
short_spelling-by P (digit first ∷ unit rank ∷ rest) h ten = by (first == 1 && rank == 1) refl where
  by : (b : Bool) → (first == 1 && rank == 1) ≡ b
      → P (if b then unit rank ∷ rest else digit first ∷ unit rank ∷ rest)
  by true e =
      let one : first ≡ 1 = let f = and-left (first == 1) _ e in grind (arith, nat_tests) in
      let same : rank ≡ 1 = let r = and-right (first == 1) _ e in grind (arith, nat_tests) in
      rw same (ten rest (rw (one, same)))
  by false e = h
