-- No spelling is misread.
use Rattle.std.proofs.Common.{◌≡◌, ◌⊎◌, inl, inr, ℕ, zero, suc, ◌+◌, ◌*◌, ◌/◌, ◌%◌, ◌^◌, ◌<◌, ◌≤◌, Bool, true, false, not, ◌&&◌, ◌||◌, ◌==◌, nat_le, nat_lt, List, [], ◌∷◌, ◌++◌, Option, None, is_some, refl, ap, subst, ◌∙◌, arith, if◌then◌else◌, append_assoc}
use Rattle.std.specs.List.{list_any}
use Rattle.std.proofs.lemmas.Bool.Decides.{nat_tests}
use Rattle.std.proofs.Math.Decide.{dec_lt}
use Rattle.cn_core.specs.declared.method.ChineseCountMethod.{ChineseCountMethod}
use Rattle.cn_core.specs.declared.method.ChineseCountMethod.TheVariants.{Low, TenThousand, Middle, High}
use Rattle.cn_core.specs.Mark.{Mark, digit, unit, other}
use Rattle.cn_core.specs.Scale.{scale}
use Rattle.cn_core.specs.Spelling.{after_unit, greatest_unit, spelling_within}
use Rattle.cn_core.proofs.Fronts.{and-left, and-right, both}
use Rattle.cn_core.proofs.ScaleLaws.{IsGreatest-unit, scale-mono}
use Rattle.cn_core.proofs.Spellings.{IsCut, IsCut-greatest, after_unit-by, spelled-step}
use Rattle.cn_core.proofs.Sums.{spelled-digit}
use Rattle.cn_quantity.specs.Misread.{bare_ten, begins, counts_after_smaller, has_two_readings, is_count, is_misread_mark, is_small_unit, is_unit, is_unit_from, is_zero, leaves_out_zero, multiplies_zero, repeats_ten, unit_before_ten}

-- the parts of a number at its greatest unit, and the fact that no greater unit fits
record IsTop (method : ChineseCountMethod) (number rank : ℕ) : Type 0 where
  cut : IsCut method number rank
  above : (more : ℕ) → rank < more → more ≤ 15 → number < scale method more

IsTop-greatest : (method : ChineseCountMethod) (number : ℕ) → 10 ≤ number
    → number < scale method 15 * scale method 15 → IsTop method number (greatest_unit method number)
IsTop-greatest method number ten small = record {
  cut = IsCut-greatest method number ten small;
  above = λ more up high.
      let test : nat_le (scale method more) number ≡ false =
      (IsGreatest-unit method number ten).above more up high in
      grind (arith, nat_tests, test);
}

quotient-some : (method : ChineseCountMethod) (number rank : ℕ) → IsCut method number rank
    → 0 < number / scale method rank
quotient-some method number rank cut = by (number / scale method rank) refl where
  by : (q : ℕ) → number / scale method rank ≡ q → 0 < number / scale method rank
  by zero e =
      let sum : 0 * scale method rank + number % scale method rank ≡ number = rw e at cut.sum in
      let less = cut.remainder in
      let size = cut.size in absurd (omega (arith, sum, less, size))
  by (suc q) e = omega (arith, e)

-- a property of each digit above 0, and of each number whose quotient and remainder, if that is not
-- 0, have it, is a property of each spelling of a number above 0
topped-by : (method : ChineseCountMethod) (P : ℕ → List Mark → Type 0)
    → ((number : ℕ) → 0 < number → number < 10 → P number (digit number ∷ []))
    → ((number rank : ℕ) (front back : List Mark) → IsTop method number rank
    → P (number / scale method rank) front
    → (0 < number % scale method rank → P (number % scale method rank) back)
    → P number (front ++ unit rank
    ∷ after_unit (number % scale method rank) (scale method rank) back))
    → (steps number : ℕ) → number ≤ steps → 0 < number
    → number < scale method 15 * scale method 15
    → P number (spelling_within steps method number)
topped-by method P one step zero number fuel some small = absurd (omega (arith, fuel, some))
topped-by method P one step (suc steps) number fuel some small =
    by (dec_lt number 10) (topped-by method P one step steps) where
      by : Dec (number < 10) → ((n : ℕ) → n ≤ steps → 0 < n
          → n < scale method 15 * scale method 15 → P n (spelling_within steps method n))
          → P number (spelling_within (suc steps) method number)
      by (yes h) rest = rw (spelled-digit (suc steps) method number h) (one number some h)
      by (no h) rest =
          let ten : 10 ≤ number = omega (arith, h) in
          let top = IsTop-greatest method number ten small in
          let cut = top.cut in
          let size = scale method (greatest_unit method number) in
          let above : 0 < number / size = quotient-some method number (greatest_unit method number) cut in
          rw (spelled-step steps method number ten)
          (step number (greatest_unit method number) _ _ top
          (rest (number / size) (omega (arith, cut.smaller, fuel)) above
          (omega (arith, cut.smaller, small)))
          (λ left. rest (number % size) (omega (arith, cut.remainder, cut.size, fuel)) left
          (omega (arith, cut.remainder, cut.size, small))))

-- the first list, reversed, before `front`: the marks before a position, with the nearest first
abbrev pub onto : List Mark → List Mark → List Mark
onto [] front = front
onto (mark ∷ rest) front = onto rest (mark ∷ front)

onto-append : (marks more front : List Mark) → onto (marks ++ more) front ≡ onto more (onto marks front)
onto-append [] more front = refl
onto-append (mark ∷ rest) more front = onto-append rest more (mark ∷ front)

-- no mark of the list is misread between these two lists
abbrev pub clears : List Mark → List Mark → List Mark → Bool
clears front [] after = true
clears front (mark ∷ rest) after =
    not (is_misread_mark front mark (rest ++ after)) && clears (mark ∷ front) rest after

clears-append : (front marks more after : List Mark) → clears front marks (more ++ after) ≡ true
    → clears (onto marks front) more after ≡ true → clears front (marks ++ more) after ≡ true
clears-append front [] more after p q = q
clears-append front (mark ∷ rest) more after p q =
    both (not (is_misread_mark front mark ((rest ++ more) ++ after)))
    (clears (mark ∷ front) (rest ++ more) after)
    (ap (λ l. not (is_misread_mark front mark l)) (append_assoc rest more after)
    ∙ and-left (not (is_misread_mark front mark (rest ++ (more ++ after)))) _ p)
    (clears-append (mark ∷ front) rest more after
    (and-right (not (is_misread_mark front mark (rest ++ (more ++ after)))) _ p) q)

-- where the spelling of a number may occur: after no unit that is not greater, and directly after a
-- unit from 億 up only if it contains a unit from 萬 up or one follows it
pub record Fits (method : ChineseCountMethod) (front : List Mark) (number : ℕ)
    (after : List Mark) : Type 0 where
  pub below : (rank : ℕ) (rest : List Mark) → front ≡ unit rank ∷ rest → number < scale method rank
  pub great : (rank : ℕ) (rest : List Mark) → front ≡ unit rank ∷ rest → 5 ≤ rank
      → (10 ^ 4 ≤ number) ⊎ (list_any (is_unit_from 4) after ≡ true)

-- the end of a spelling, from its last mark: it ends with a unit, or with a digit after 十 or 零
abbrev pub closed : List Mark → Bool
closed (unit rank ∷ rest) = nat_le 1 rank
closed (digit value ∷ unit rank ∷ rest) = nat_lt 0 value && rank == 1
closed (digit value ∷ digit next ∷ rest) = nat_lt 0 value && next == 0
closed marks = false

-- the properties of the spelling of a number above 0
pub record IsClear (method : ChineseCountMethod) (number : ℕ) (marks : List Mark) : Type 0 where
  pub one : number < 10 → marks ≡ digit number ∷ []
  pub closes : 10 ≤ number → (front : List Mark) → closed (onto marks front) ≡ true
  pub clear : (front after : List Mark) → Fits method front number after
      → clears front marks after ≡ true

pub none-misread : (a b c d e : Bool) → a ≡ false → b ≡ false → c ≡ false → d ≡ false → e ≡ false
    → (a || b || c || d || e) ≡ false
none-misread a b c d e p q r s t = rw (p, q, r, s, t) refl

pub and-no : (a b : Bool) → b ≡ false → (a && b) ≡ false
and-no true b h = h
and-no false b h = refl

pub and-off : (a b : Bool) → a ≡ false → (a && b) ≡ false
and-off a b h = rw h refl

pub clear-of : (front : List Mark) (mark : Mark) (after : List Mark)
    → is_some (bare_ten front mark) ≡ false → repeats_ten front mark ≡ false
    → multiplies_zero front mark ≡ false → has_two_readings front mark ≡ false
    → leaves_out_zero front mark after ≡ false → is_misread_mark front mark after ≡ false
clear-of front mark after a b c d e =
    none-misread (is_some (bare_ten front mark)) (repeats_ten front mark)
    (multiplies_zero front mark) (has_two_readings front mark) (leaves_out_zero front mark after)
    a b c d e

-- a digit
pub digit-clear_of : (front after : List Mark) (value : ℕ)
    → leaves_out_zero front (digit value) after ≡ false
    → is_misread_mark front (digit value) after ≡ false
digit-clear_of front after value h =
    clear-of front (digit value) after refl (and-no (begins (is_unit 1) front) false refl)
    (and-no (begins is_zero front) false refl) refl h

digit-clear : (method : ChineseCountMethod) (number : ℕ) (front after : List Mark) → number < 10
    → Fits method front number after → is_misread_mark front (digit number) after ≡ false
digit-clear method number front after low fits =
    digit-clear_of front after number (by front refl) where
      strong : (a b c : Bool) → list_any (is_unit_from 4) after ≡ true
          → (a && b && not (list_any (is_unit_from 4) after) && c) ≡ false
      strong a b c h = rw h (and-off _ c (and-no (a && b) false refl))

      by : (l : List Mark) → front ≡ l → leaves_out_zero l (digit number) after ≡ false
      by [] e = refl
      by (digit v ∷ rest) e = refl
      by (other ∷ rest) e = refl
      by (unit rank ∷ rest) e = elim (dec_lt rank 5) [
        | yes small ↦
            let test : nat_le 5 rank ≡ false = grind (arith, nat_tests, small) in rw test refl
        | no more ↦ elim (fits.great rank rest e (omega (arith, more))) [
          | inl much ↦ absurd (omega (arith, much, low))
          | inr h ↦ strong (nat_le 5 rank) (is_count (digit number) || false)
              (list_any is_small_unit (digit number ∷ after)) h
        ]
      ]

-- 零 after a unit
zero-clear : (rank : ℕ) (front after : List Mark)
    → is_misread_mark (unit rank ∷ front) (digit 0) after ≡ false
zero-clear rank front after =
    digit-clear_of (unit rank ∷ front) after 0
    (and-off _ (list_any is_small_unit (digit 0 ∷ after))
    (and-off _ (not (list_any (is_unit_from 4) after)) (and-no (nat_le 5 rank) false refl)))

scale-four : (method : ChineseCountMethod) → scale method 4 ≡ 10 ^ 4
scale-four Low = refl
scale-four TenThousand = refl
scale-four Middle = refl
scale-four High = refl

scale-two : (method : ChineseCountMethod) → scale method 2 ≡ 100
scale-two Low = refl
scale-two TenThousand = refl
scale-two Middle = refl
scale-two High = refl

scale-three : (method : ChineseCountMethod) → scale method 3 ≡ 1000
scale-three Low = refl
scale-three TenThousand = refl
scale-three Middle = refl
scale-three High = refl

scale-one : (method : ChineseCountMethod) → scale method 1 ≡ 10
scale-one Low = refl
scale-one TenThousand = refl
scale-one Middle = refl
scale-one High = refl

-- a unit directly after a digit above 0
counts-none : (method : ChineseCountMethod) (number rank value : ℕ) (front after : List Mark)
    → Fits method front number after → scale method rank ≤ number
    → counts_after_smaller rank (digit value ∷ front) ≡ false
counts-none method number rank value front after fits size = by front refl where
  by : (l : List Mark) → front ≡ l → counts_after_smaller rank (digit value ∷ l) ≡ false
  by [] e = refl
  by (digit v ∷ rest) e = refl
  by (other ∷ rest) e = refl
  by (unit more ∷ rest) e =
      let low = fits.below more rest e in
      let above : ¬ (more < rank) = (λ less. let p = scale-mono method more rank less in
      omega (arith, p, low, size)) in
      let test : nat_lt more rank ≡ false = grind (arith, nat_tests, above) in
      rw test (and-no (nat_lt 0 value && nat_le 2 more) false refl)

no-bare : (rank value : ℕ) (front : List Mark) → (value == 0) ≡ false
    → is_some (bare_ten (digit value ∷ front) (unit rank)) ≡ false
no-bare rank value front none = by (rank == 1) (unit_before_ten (digit value ∷ front)) (nothing front)
  where
    nothing : (l : List Mark) → unit_before_ten (digit value ∷ l) ≡ None
    nothing [] = refl
    nothing (digit v ∷ rest) = refl
    nothing (other ∷ rest) = refl
    nothing (unit r ∷ rest) = rw none refl

    by : (b : Bool) (o : Option ℕ) → o ≡ None → is_some (if b then o else None) ≡ false
    by true o h = rw h refl
    by false o h = refl

after_digit-clear : (method : ChineseCountMethod) (number rank value : ℕ)
    (front after more : List Mark) → 0 < value → Fits method front number after
    → scale method rank ≤ number
    → is_misread_mark (digit value ∷ front) (unit rank) more ≡ false
after_digit-clear method number rank value front after more some fits size =
    let none : (value == 0) ≡ false = grind (arith, nat_tests, some) in
    let counts = counts-none method number rank value front after fits size in
    clear-of (digit value ∷ front) (unit rank) more (no-bare rank value front none) refl
    (rw none refl) (rw counts (and-no (nat_le 4 rank) false refl)) refl

-- a unit from 千 up after a spelling
closed-clear : (front more : List Mark) (rank : ℕ) → closed front ≡ true → 3 ≤ rank
    → is_misread_mark front (unit rank) more ≡ false
closed-clear [] more rank h high = cc
closed-clear (other ∷ rest) more rank h high = cc
closed-clear (digit v ∷ []) more rank h high = cc
closed-clear (digit v ∷ other ∷ rest) more rank h high = cc
closed-clear (unit r ∷ rest) more rank h high =
    let one : (rank == 1) ≡ false = grind (arith, nat_tests, high) in
    let two : (rank == 2) ≡ false = grind (arith, nat_tests, high) in
    let ge : (r == 0) ≡ false = grind (arith, nat_tests, h) in
    clear-of (unit r ∷ rest) (unit rank) more (rw one refl)
    (rw (one, two) (and-no (r == 1) false refl)) refl
    (rw ge (and-no (nat_le 4 rank) false refl))
    (rw one (and-off _ _ (and-off _ _ (and-no (nat_le 5 r) false refl))))
closed-clear (digit v ∷ unit r ∷ rest) more rank h high =
    let one : (rank == 1) ≡ false = grind (arith, nat_tests, high) in
    let some : (v == 0) ≡ false =
    (let p = and-left (nat_lt 0 v) (r == 1) h in grind (arith, nat_tests, p)) in
    let ten : nat_le 2 r ≡ false =
    (let p = and-right (nat_lt 0 v) (r == 1) h in grind (arith, nat_tests, p)) in
    let counts : counts_after_smaller rank (digit v ∷ unit r ∷ rest) ≡ false =
    rw ten (and-off _ (nat_lt r rank) (and-no (nat_lt 0 v) false refl)) in
    clear-of (digit v ∷ unit r ∷ rest) (unit rank) more (rw one refl) refl (rw some refl)
    (rw counts (and-no (nat_le 4 rank) false refl)) refl
closed-clear (digit v ∷ digit w ∷ rest) more rank h high =
    let one : (rank == 1) ≡ false = grind (arith, nat_tests, high) in
    let some : (v == 0) ≡ false =
    (let p = and-left (nat_lt 0 v) (w == 0) h in grind (arith, nat_tests, p)) in
    clear-of (digit v ∷ digit w ∷ rest) (unit rank) more (rw one refl) refl (rw some refl)
    (and-no (nat_le 4 rank) false refl) refl

-- a number from 10^4 up has a greatest unit of 萬 or above
top-rank : (method : ChineseCountMethod) (number rank : ℕ) → IsTop method number rank
    → 10 ^ 4 ≤ number → 4 ≤ rank
top-rank method number rank top much = by (dec_lt rank 4) where
  by : Dec (rank < 4) → 4 ≤ rank
  by (no high) = omega (arith, high)
  by (yes low) =
      let above = top.above 4 low (omega arith) in
      let four = scale-four method in absurd (omega (arith, above, four, much))

quotient-low : (method : ChineseCountMethod) (number rank : ℕ) → IsTop method number rank
    → 10 ≤ number / scale method rank → 3 ≤ rank
quotient-low method number rank top ten = by (dec_lt rank 3) where
  one : rank ≡ 1 → ⊥
  one is =
      let above = top.above 2 (omega (arith, is)) (omega arith) in
      let sum = top.cut.sum in
      let s = rw (is, scale-one method) at sum in
      let t = rw (is, scale-one method) at ten in
      let two = scale-two method in
      omega (arith, above, s, t, two)

  two : rank ≡ 2 → ⊥
  two is =
      let above = top.above 3 (omega (arith, is)) (omega arith) in
      let sum = top.cut.sum in
      let s = rw (is, scale-two method) at sum in
      let t = rw (is, scale-two method) at ten in
      let three = scale-three method in
      omega (arith, above, s, t, three)

  by : Dec (rank < 3) → 3 ≤ rank
  by (no high) = omega (arith, high)
  by (yes low) = elim (dec_lt rank 2) [
    | yes less ↦ absurd (one (let p = top.cut.low in omega (arith, p, less)))
    | no more ↦ absurd (two (omega (arith, more, low)))
  ]

-- a remainder of one digit that is directly after its unit is after 十
remainder-ten : (method : ChineseCountMethod) (rank remainder : ℕ) → 1 ≤ rank
    → scale method rank / 10 ≤ remainder → remainder < 10 → rank ≡ 1
remainder-ten method rank remainder some full low = by (dec_lt 1 rank) where
  by : Dec (1 < rank) → rank ≡ 1
  by (no one) = omega (arith, one, some)
  by (yes more) =
      let p = scale-mono method 1 rank more in
      let ten = scale-one method in
      absurd (omega (arith, p, ten, full, low))

list_any-front : (test : Mark → Bool) (front marks : List Mark) → list_any test marks ≡ true
    → list_any test (front ++ marks) ≡ true
list_any-front test [] marks h = h
list_any-front test (mark ∷ front) marks h = by (test mark) (list_any-front test front marks h)
  where
    by : (b : Bool) → list_any test (front ++ marks) ≡ true
        → (b || list_any test (front ++ marks)) ≡ true
    by true ih = refl
    by false ih = ih

-- a spelling of one digit
IsClear-digit : (method : ChineseCountMethod) (number : ℕ) → 0 < number → number < 10
    → IsClear method number (digit number ∷ [])
IsClear-digit method number some low = record {
  one = λ h. refl;
  closes = λ ten front. absurd (omega (arith, ten, low));
  clear = λ front after fits.
      let clear = digit-clear method number front after low fits in rw clear refl;
}

-- a number with its greatest unit
closes-step : (method : ChineseCountMethod) (number rank : ℕ) (back : List Mark)
    → IsTop method number rank
    → (0 < number % scale method rank → IsClear method (number % scale method rank) back)
    → (front : List Mark)
    → closed (onto (after_unit (number % scale method rank) (scale method rank) back)
    (unit rank ∷ front)) ≡ true
closes-step method number rank back top b front =
    after_unit-by (λ l. closed (onto l (unit rank ∷ front)) ≡ true) remainder (scale method rank) back
    (λ none. let p = top.cut.low in grind (arith, nat_tests, p))
    (λ some gap. by-gap (dec_lt remainder 10) some)
    (λ some full. by-full (dec_lt remainder 10) some full) where
      remainder : ℕ
      remainder = number % scale method rank

      by-gap : Dec (remainder < 10) → 0 < remainder
          → closed (onto back (digit 0 ∷ unit rank ∷ front)) ≡ true
      by-gap (yes low) some =
          let one = (b some).one low in
          let test : nat_lt 0 remainder ≡ true = grind (arith, nat_tests, some) in
          rw one (both (nat_lt 0 remainder) true test refl)
      by-gap (no high) some = (b some).closes (omega (arith, high)) (digit 0 ∷ unit rank ∷ front)

      by-full : Dec (remainder < 10) → 0 < remainder → scale method rank / 10 ≤ remainder
          → closed (onto back (unit rank ∷ front)) ≡ true
      by-full (yes low) some full =
          let one = (b some).one low in
          let test : nat_lt 0 remainder ≡ true = grind (arith, nat_tests, some) in
          let ten : (rank == 1) ≡ true =
          (let p = remainder-ten method rank remainder top.cut.low full low in
          grind (arith, nat_tests, p)) in
          rw one (both (nat_lt 0 remainder) (rank == 1) test ten)
      by-full (no high) some full =
          (b some).closes (omega (arith, high)) (unit rank ∷ front)

-- the quotient fits in its place if the number does
Fits-quotient : (method : ChineseCountMethod) (number rank : ℕ) (front after more : List Mark)
    → IsTop method number rank → Fits method front number after
    → Fits method front (number / scale method rank) (unit rank ∷ more ++ after)
Fits-quotient method number rank front after more top fits = record {
  below = λ r rest e. let p = fits.below r rest e in let q = top.cut.smaller in omega (arith, p, q);
  great = λ r rest e high. elim (fits.great r rest e high) [
    | inl much ↦ inr (let p = top-rank method number rank top much in
        let test : nat_le 4 rank ≡ true = grind (arith, nat_tests, p) in rw test refl)
    | inr h ↦ inr (list_any-front (is_unit_from 4) (unit rank ∷ more) after h)
  ];
}

-- the remainder, directly after the unit
Fits-remainder : (method : ChineseCountMethod) (number rank : ℕ) (front after : List Mark)
    → IsTop method number rank → scale method rank / 10 ≤ number % scale method rank
    → Fits method (unit rank ∷ front) (number % scale method rank) after
Fits-remainder method number rank front after top full = record {
  below = λ r rest e.
      let same : rank ≡ r = cc in
      subst (λ n. number % scale method rank < scale method n) same top.cut.remainder;
  great = λ r rest e high. inl (
      let same : rank ≡ r = cc in
      let p = scale-mono method 4 rank (omega (arith, same, high)) in
      let four = scale-four method in
      omega (arith, p, four, full));
}

-- the remainder, after 零
Fits-zero : (method : ChineseCountMethod) (number : ℕ) (front after : List Mark)
    → Fits method (digit 0 ∷ front) number after
Fits-zero method number front after = record {
  below = λ r rest e. cc;
  great = λ r rest e high. cc;
}

-- the unit after the quotient
unit-clear : (method : ChineseCountMethod) (number rank : ℕ) (quotient front after more : List Mark)
    → IsTop method number rank → 0 < number / scale method rank
    → IsClear method (number / scale method rank) quotient → Fits method front number after
    → is_misread_mark (onto quotient front) (unit rank) more ≡ false
unit-clear method number rank quotient front after more top some q fits =
    by (dec_lt (number / scale method rank) 10) where
      by : Dec (number / scale method rank < 10)
          → is_misread_mark (onto quotient front) (unit rank) more ≡ false
      by (yes low) =
          let one = q.one low in
          rw one (after_digit-clear method number rank (number / scale method rank) front after more
          some fits top.cut.size)
      by (no high) =
          let ten : 10 ≤ number / scale method rank = omega (arith, high) in
          closed-clear (onto quotient front) more rank (q.closes ten front)
          (quotient-low method number rank top ten)

clear-step : (method : ChineseCountMethod) (number rank : ℕ) (quotient back : List Mark)
    → IsTop method number rank → 0 < number / scale method rank
    → IsClear method (number / scale method rank) quotient
    → (0 < number % scale method rank → IsClear method (number % scale method rank) back)
    → (front after : List Mark) → Fits method front number after
    → clears front (quotient ++ unit rank
    ∷ after_unit (number % scale method rank) (scale method rank) back) after ≡ true
clear-step method number rank quotient back top some q b front after fits =
    clears-append front quotient (unit rank ∷ tail) after
    (q.clear front (unit rank ∷ tail ++ after)
    (Fits-quotient method number rank front after tail top fits))
    (rw here rest) where
      tail : List Mark
      tail = after_unit (number % scale method rank) (scale method rank) back

      before : List Mark
      before = onto quotient front

      here : is_misread_mark (onto quotient front) (unit rank)
          (after_unit (number % scale method rank) (scale method rank) back ++ after) ≡ false
      here = unit-clear method number rank quotient front after
          (after_unit (number % scale method rank) (scale method rank) back ++ after) top some q fits

      rest : clears (unit rank ∷ onto quotient front)
          (after_unit (number % scale method rank) (scale method rank) back) after ≡ true
      rest =
          after_unit-by (λ l. clears (unit rank ∷ onto quotient front) l after ≡ true)
          (number % scale method rank) (scale method rank) back (λ none. refl)
          (λ more gap. both
          (not (is_misread_mark (unit rank ∷ onto quotient front) (digit 0) (back ++ after))) _
          (ap not (zero-clear rank (onto quotient front) (back ++ after)))
          ((b more).clear (digit 0 ∷ unit rank ∷ onto quotient front) after
          (Fits-zero method (number % scale method rank) (unit rank ∷ onto quotient front) after)))
          (λ more full. (b more).clear (unit rank ∷ onto quotient front) after
          (Fits-remainder method number rank (onto quotient front) after top full))

IsClear-step : (method : ChineseCountMethod) (number rank : ℕ) (quotient back : List Mark)
    → IsTop method number rank → IsClear method (number / scale method rank) quotient
    → (0 < number % scale method rank → IsClear method (number % scale method rank) back)
    → IsClear method number (quotient ++ unit rank
    ∷ after_unit (number % scale method rank) (scale method rank) back)
IsClear-step method number rank quotient back top q b = record {
  one = λ low. absurd (let p = top.cut.size in let t = top.cut.ten in omega (arith, p, t, low));
  closes = λ ten front.
      ap closed (onto-append quotient (unit rank ∷ after_unit (number % scale method rank)
      (scale method rank) back) front)
      ∙ closes-step method number rank back top b (onto quotient front);
  clear = clear-step method number rank quotient back top
      (quotient-some method number rank top.cut) q b;
}

pub IsClear-spelling_within : (method : ChineseCountMethod) (number : ℕ) → 0 < number
    → number < scale method 15 * scale method 15
    → IsClear method number (spelling_within number method number)
IsClear-spelling_within method number some small =
    topped-by method (IsClear method) (IsClear-digit method) (IsClear-step method)
    number number (omega arith) some small
