-- Methods spell alike where they have the same units.
use Rattle.std.proofs.Common.{◌≡◌, ℕ, zero, suc, ◌+◌, ◌/◌, ◌%◌, ◌^◌, ◌<◌, ◌≤◌, true, false, nat_le, nat_lt, List, ◌∷◌, ◌++◌, refl, sym, ap, ap₂, ◌∙◌, arith}
use Rattle.std.proofs.Math.Decide.{dec_lt}
use Rattle.std.proofs.Math.Nat.{div-le_self, mod-lt}
use Rattle.std.proofs.lemmas.Bool.{leb-true}
use Rattle.std.proofs.lemmas.Bool.Decides.{nat_tests}
use Rattle.cn_core.specs.declared.method.ChineseCountMethod.{ChineseCountMethod}
use Rattle.cn_core.specs.declared.method.ChineseCountMethod.TheVariants.{Low, TenThousand, Middle, High}
use Rattle.cn_core.specs.Mark.{Mark, unit}
use Rattle.cn_core.specs.Scale.{scale, exponent}
use Rattle.cn_core.specs.Spelling.{spelling, short_spelling, spelling_within, greatest_unit, after_unit}
use Rattle.cn_core.proofs.ScaleLaws.{IsGreatest-unit, greatest-scale, scale-mono, scale-pos}
use Rattle.cn_core.proofs.Spellings.{spelled-step}
use Rattle.cn_core.proofs.Sums.{spelled-digit}

-- two methods have the same units up to a rank, and below a bound neither needs a greater one
pub record Agree (one second : ChineseCountMethod) (limit bound : ℕ) : Type 0 where
  pub low : limit < 15
  pub same : (rank : ℕ) → rank ≤ limit → scale one rank ≡ scale second rank
  pub one_next : bound ≤ scale one (limit + 1)
  pub second_next : bound ≤ scale second (limit + 1)

-- the greatest unit that a number needs lies within the limit
within : (method : ChineseCountMethod) (limit bound number : ℕ) → bound ≤ scale method (limit + 1)
    → 10 ≤ number → number < bound → greatest_unit method number ≤ limit
within method limit bound number next ten small =
    elim (dec_lt limit (greatest_unit method number)) [
      | no h ↦ omega (arith, h)
      | yes h ↦ absurd (past (dec_lt (limit + 1) (greatest_unit method number)) h)
    ] where
      size : scale method (greatest_unit method number) ≤ number
      size = greatest-scale method number ten

      past : Dec (limit + 1 < greatest_unit method number) → limit < greatest_unit method number → ⊥
      past (yes more) h = let m = scale-mono method (limit + 1) (greatest_unit method number) more
          in omega (arith, m, next, size, small)
      past (no less) h = let e : greatest_unit method number ≡ limit + 1 = omega (arith, h, less)
          in let s : scale method (limit + 1) ≤ number =
          rw e at size in omega (arith, s, next, small)

-- no unit of one is greater than the other's
not_above : (one second : ChineseCountMethod) (limit bound number : ℕ)
    → Agree one second limit bound → 10 ≤ number → number < bound
    → ¬ (greatest_unit one number < greatest_unit second number)
not_above one second limit bound number agree ten small h =
    let low = within second limit bound number agree.second_next ten small in
    let size = greatest-scale second number ten in
    let test : nat_le (scale one (greatest_unit second number)) number ≡ false =
    (IsGreatest-unit one number ten).above (greatest_unit second number) h
    (IsGreatest-unit second number ten).high in
    let past : number < scale one (greatest_unit second number) = grind (arith, nat_tests) in
    omega (arith, past, size, agree.same (greatest_unit second number) low)

Agree-sym : (one second : ChineseCountMethod) (limit bound : ℕ) → Agree one second limit bound
    → Agree second one limit bound
Agree-sym one second limit bound h = record {
  low = h.low;
  same =
      λ rank l. sym (h.same rank l);
  one_next = h.second_next;
  second_next = h.one_next;
}

greatest-same : (one second : ChineseCountMethod) (limit bound number : ℕ)
    → Agree one second limit bound → 10 ≤ number → number < bound
    → greatest_unit one number ≡ greatest_unit second number
greatest-same one second limit bound number agree ten small =
    let up : ¬ (greatest_unit one number < greatest_unit second number) =
    not_above one second limit bound number agree ten small in
    let down : ¬ (greatest_unit second number < greatest_unit one number) =
    not_above second one limit bound number (Agree-sym one second limit bound agree) ten
    small in
    omega (arith, up, down)

-- what a step of a spelling is
abbrev cut : ℕ → ℕ → ℕ → List Mark → List Mark → List Mark
cut number rank size front back = front ++ unit rank ∷ after_unit (number % size) size back

spelled-same : (one second : ChineseCountMethod) (limit bound : ℕ) → Agree one second limit bound
    → (steps number : ℕ) → number < bound
    → spelling_within steps one number ≡ spelling_within steps second number
spelled-same one second limit bound agree zero number small = refl
spelled-same one second limit bound agree (suc steps) number small =
    by (dec_lt number 10) (spelled-same one second limit bound agree steps) where
      by : Dec (number < 10) → ((n : ℕ) → n < bound
          → spelling_within steps one n ≡ spelling_within steps second n)
          → spelling_within (suc steps) one number ≡ spelling_within (suc steps) second number
      by (yes h) ih = spelled-digit (suc steps) one number h
          ∙ sym (spelled-digit (suc steps) second number h)
      by (no h) ih =
          let ten : 10 ≤ number = omega (arith, h) in
          let rank = greatest_unit one number in
          let size = scale one rank in
          let ranks : rank ≡ greatest_unit second number =
          greatest-same one second limit bound number agree ten small in
          let sizes : size ≡ scale second (greatest_unit second number) =
          agree.same rank (within one limit bound number agree.one_next ten small)
          ∙ ap (scale second) ranks in
          let fits : size ≤ number = greatest-scale one number ten in
          let less : number % size < size = mod-lt number (scale-pos one rank) in
          let front = ih (number / size) (omega (arith, div-le_self number size, small)) in
          let back = ih (number % size) (omega (arith, less, fits, small)) in
          spelled-step steps one number ten
          ∙ ap₂ (cut number rank size) front back
          ∙ ap₂ (λ r s. cut number r s (spelling_within steps second (number / s))
          (spelling_within steps second (number % s))) ranks sizes
          ∙ sym (spelled-step steps second number ten)

spelling-same : (one second : ChineseCountMethod) (limit bound number : ℕ)
    → Agree one second limit bound → number < bound → spelling one number ≡ spelling second number
spelling-same one second limit bound number agree small =
    ap short_spelling (spelled-same one second limit bound agree number number small)

-- up to 萬 the methods agree
pub exponent-low : (method : ChineseCountMethod) (rank : ℕ) → rank ≤ 4 → exponent method rank ≡ rank
exponent-low Low rank h = refl
exponent-low TenThousand rank h = grind (arith, nat_tests)
exponent-low Middle rank h = grind (arith, nat_tests)
exponent-low High rank h = grind (arith, nat_tests)

pub exponent-small : (one second : ChineseCountMethod) (rank : ℕ) → nat_lt rank 5 ≡ true
    → exponent one rank ≡ exponent second rank
exponent-small one second rank h =
    let low : rank ≤ 4 = grind (arith, nat_tests, h) in
    exponent-low one rank low ∙ sym (exponent-low second rank low)

-- all but `Low` up to 億 too
pub exponent-to_yi : (rank : ℕ) → nat_lt rank 6 ≡ true
    → (exponent TenThousand rank ≡ exponent Middle rank)
    × (exponent Middle rank ≡ exponent High rank)
exponent-to_yi rank h = by (dec_lt rank 5) where
  by : Dec (rank < 5) → (exponent TenThousand rank ≡ exponent Middle rank)
      × (exponent Middle rank ≡ exponent High rank)
  by (yes low) =
      let test : nat_lt rank 5 ≡ true = grind (arith, nat_tests, low) in
      (exponent-small TenThousand Middle rank test, exponent-small Middle High rank test)
  by (no high) =
      let yi : rank ≡ 5 = grind (arith, nat_tests, h, high) in rw yi (refl, refl)

scale-low : (one second : ChineseCountMethod) (rank : ℕ) → rank ≤ 4
    → scale one rank ≡ scale second rank
scale-low one second rank h = ap (λ e. 10 ^ e) (exponent-low one rank h
    ∙ sym (exponent-low second rank h))

yi : (method : ChineseCountMethod) → 10 ^ 5 ≤ scale method 5
yi Low = leb-true _ _ refl
yi TenThousand = leb-true _ _ refl
yi Middle = leb-true _ _ refl
yi High = leb-true _ _ refl

pub all_alike : (number : ℕ) → number < 10 ^ 5 → (one second : ChineseCountMethod)
    → spelling one number ≡ spelling second number
all_alike number small one second =
    spelling-same one second 4 (10 ^ 5) number
    (record {
      low = omega arith;
      same = scale-low one second;
      one_next = yi one;
      second_next =
          yi second;
    }) small

-- one rank more
up_to_next : (one second : ChineseCountMethod) (limit : ℕ)
    → ((rank : ℕ) → rank ≤ limit → scale one rank ≡ scale second rank)
    → scale one (limit + 1) ≡ scale second (limit + 1)
    → (rank : ℕ) → rank ≤ limit + 1 → scale one rank ≡ scale second rank
up_to_next one second limit same next rank h = elim (dec_lt limit rank) [
  | no low ↦ same rank (omega (arith, low))
  | yes high ↦ let e : rank ≡ limit + 1 = omega (arith, high, h) in rw e next
]

pub three_alike : (number : ℕ) → number < 10 ^ 12
    → (spelling TenThousand number ≡ spelling Middle number)
    × (spelling Middle number ≡ spelling High number)
three_alike number small = (
  spelling-same TenThousand Middle 5 (10 ^ 12) number
      (record {
        low = omega arith;
        same =
            up_to_next TenThousand Middle 4 (scale-low TenThousand Middle) refl;
        one_next =
            leb-true _ _ refl;
        second_next = leb-true _ _ refl;
      }) small,
  spelling-same Middle High 5 (10 ^ 12) number
      (record {
        low = omega arith;
        same = up_to_next Middle High 4 (scale-low Middle High) refl;
        one_next = leb-true _ _ refl;
        second_next = leb-true _ _ refl;
      }) small,
)

pub two_alike : (number : ℕ) → number < 10 ^ 24 → spelling Middle number ≡ spelling High number
two_alike number small =
    spelling-same Middle High 6 (10 ^ 24) number
    (record {
      low = omega arith;
      same =
          up_to_next Middle High 5 (up_to_next Middle High 4 (scale-low Middle High) refl) refl;
      one_next = leb-true _ _ refl;
      second_next = leb-true _ _ refl;
    }) small
