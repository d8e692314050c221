-- Digits whose powers have units of their own, from the lowest up.
use Rattle.std.proofs.Common.{◌≡◌, ℕ, zero, suc, ◌+◌, ◌*◌, ◌/◌, ◌%◌, ◌^◌, ◌<◌, ◌≤◌, max, Bool, true, false, ◌==◌, ◌&&◌, nat_le, nat_lt, List, [], ◌∷◌, ◌++◌, refl, sym, ap, ap₂, ◌∙◌, arith, append_assoc, append-nil, if◌then◌else◌}
use Rattle.std.proofs.lemmas.Bool.{agree_below, agree_below_at, and_parts, eqb-true}
use Rattle.std.proofs.lemmas.Bool.Decides.{nat_tests}
use Rattle.std.proofs.Math.Decide.{dec_lt}
use Rattle.std.proofs.Math.Nat.{mul-le-mul_right, mod-eq_of_lt}
use Rattle.std.proofs.Math.Bool.{and-false}
use Rattle.cn_core.specs.declared.method.ChineseCountMethod.{ChineseCountMethod}
use Rattle.cn_core.specs.declared.method.ChineseCountMethod.TheVariants.{Low}
use Rattle.cn_core.specs.Mark.{Mark, digit, unit}
use Rattle.cn_core.proofs.Cuts.{part}
use Rattle.cn_spell.specs.Working.Sections.{kept, digit_marks, section_marks}
use Rattle.cn_spell.specs.Working.Units.{widths_of, powers_within, rank_at, units_behind}
use Rattle.cn_spell.proofs.Walks.{Fills, is_spaced, lower-split, lower-less, behind-head, behind-zero}
use Rattle.cn_spell.proofs.Tops.{at, part-same, filled_of, Filled, part-digit, part-none}

-- 零 before the lower marks, if the next power is empty
abbrev pub gap_marks : ℕ → ℕ → List Mark
gap_marks filled power = kept (nat_lt 0 filled && nat_lt filled power) (digit 0)

-- each power below this one has its own unit: any power under `Low`, else the lowest four
abbrev pub own_limit : ChineseCountMethod → ℕ
own_limit Low = 16
own_limit method = 4

-- the unit of the power has the same rank, and no wider group begins above 0 and below the power
abbrev is_own : ChineseCountMethod → ℕ → Bool
is_own method power =
    rank_at method power == power && is_spaced power power 0 (widths_of method)

all_own : (method : ChineseCountMethod)
    → agree_below (is_own method) (λ n. true) (own_limit method) ≡ true
all_own Low = refl
all_own method = refl

pub behind-own : (method : ChineseCountMethod) (power filled : ℕ) → power < own_limit method
    → 0 < power → filled ≤ power
    → units_behind method power filled ≡ unit power ∷ gap_marks filled power
behind-own method power filled own some under =
    let tests = and_parts (rank_at method power == power) _
    (agree_below_at (is_own method) (λ n. true) (own_limit method) power (all_own method) own) in
    let head = behind-head power method power filled tests.1 some under in
    let flag : (max filled 1 == filled && nat_lt filled power)
    ≡ (nat_lt 0 filled && nat_lt filled power) = grind (arith, nat_tests) in
    head.1 ∙ ap₂ (λ rank marks. unit rank ∷ marks) (eqb-true _ _ tests.0)
    (head.2 (omega arith) ∙ ap (λ b. kept b (digit 0)) flag)

-- the digit below a power
abbrev pub below_of : ℕ → ℕ → ℕ
below_of number zero = 0
below_of number (suc power) = at number power

no-gap : (power : ℕ) → gap_marks power power ≡ []
no-gap power =
    let t : nat_lt power power ≡ false = grind (arith, nat_tests) in
    rw t (never (nat_lt 0 power)) where
      never : (b : Bool) → kept (b && false) (digit 0) ≡ []
      never true = refl
      never false = refl

-- the marks that are written when a power is reached, with 零 before them if the next power is empty
abbrev pub so_far : ChineseCountMethod → ℕ → ℕ → List Mark
so_far method number power = gap_marks (filled_of number power) power
    ++ part method (number % 10 ^ power)

-- a digit that is not 0
pub some-digit : (method : ChineseCountMethod) (number power filled : ℕ) (is_gap : Bool)
    → power < powers_within method → power < own_limit method → 0 < at number power → filled ≤ power
    → Fills filled (number % 10 ^ power)
    → part method (number % 10 ^ suc power) ≡ digit_marks power (at number power) is_gap
    ++ (gap_marks filled power ++ part method (number % 10 ^ power))
some-digit method number zero filled is_gap within own pos under fills =
    let t : nat_lt 0 (at number 0) ≡ true = grind (arith, nat_tests, pos) in
    let z : filled ≡ 0 = omega (arith, under) in
    rw (z, t) (part-digit method number 0 0 within pos (omega arith) (rw z at fills)
    ∙ ap (λ marks. digit (at number 0) ∷ (marks ++ part method (number % 10 ^ 0)))
    (behind-zero method))
some-digit method number (suc power) filled is_gap within own pos under fills =
    let t : nat_lt 0 (at number (suc power)) ≡ true = grind (arith, nat_tests, pos) in
    let high : nat_lt 0 (suc power) ≡ true = grind (arith, nat_tests) in
    let step : suc power + 1 ≡ suc (suc power) = omega arith in
    rw (t, high) (rw step at (part-digit method number (suc power) filled within pos under fills)
    ∙ ap (λ marks. digit (at number (suc power))
    ∷ (marks ++ part method (number % 10 ^ suc power))) (behind-own method (suc power) filled own
    (omega arith) under))

gap-step : (number power : ℕ) → gap_marks (filled_of number power) (suc power)
    ≡ kept (nat_lt 0 (below_of number power)) (digit 0) ++ gap_marks (filled_of number power) power
gap-step number zero = refl
gap-step number (suc power) = by (dec_lt 0 (at number power)) where
  by : Dec (0 < at number power) → gap_marks (filled_of number (suc power)) (suc (suc power))
      ≡ kept (nat_lt 0 (at number power)) (digit 0)
      ++ gap_marks (filled_of number (suc power)) (suc power)
  by (yes pos) =
      let t : nat_lt 0 (at number power) ≡ true = grind (arith, nat_tests, pos) in
      let next : nat_lt (suc power) (suc (suc power)) ≡ true = grind (arith, nat_tests) in
      let high : nat_lt 0 (suc power) ≡ true = grind (arith, nat_tests) in
      rw (t, no-gap (suc power), next, high) refl
  by (no none) =
      let t : nat_lt 0 (at number power) ≡ false = grind (arith, nat_tests, none) in
      let under : filled_of number power ≤ power = (Filled number power).0 in
      let near : nat_lt (filled_of number power) (suc power) ≡ true =
      grind (arith, nat_tests, under) in
      let far : nat_lt (filled_of number power) (suc (suc power)) ≡ true =
      grind (arith, nat_tests, under) in
      rw (t, near, far) refl

-- a digit 0
power-zero : (power value : ℕ) (is_gap : Bool) (rest : List Mark) → value ≡ 0
    → digit_marks power value is_gap ++ rest ≡ kept is_gap (digit 0) ++ rest
power-zero power value true rest z = rw z refl
power-zero power value false rest z = rw z refl

-- each power adds its digit and unit, or 零
pub step : (method : ChineseCountMethod) (number power : ℕ) → power < powers_within method
    → power < own_limit method
    → so_far method number (suc power) ≡ digit_marks power (at number power)
    (nat_lt 0 (below_of number power)) ++ so_far method number power
step method number power within own = by (dec_lt 0 (at number power)) where
  by : Dec (0 < at number power) → so_far method number (suc power)
      ≡ digit_marks power (at number power) (nat_lt 0 (below_of number power))
      ++ so_far method number power
  by (yes pos) =
      let t : nat_lt 0 (at number power) ≡ true = grind (arith, nat_tests, pos) in
      let held = Filled number power in
      let first : so_far method number (suc power) ≡ part method (number % 10 ^ suc power) =
      rw (t, no-gap (suc power)) refl in
      first ∙ some-digit method number power (filled_of number power)
      (nat_lt 0 (below_of number power)) within own pos held.0 held.1
  by (no none) =
      let t : nat_lt 0 (at number power) ≡ false = grind (arith, nat_tests, none) in
      let z : at number power ≡ 0 = omega (arith, none) in
      let next : power + 1 ≡ suc power = omega arith in
      let same : part method (number % 10 ^ suc power) ≡ part method (number % 10 ^ power) =
      rw next at (part-same method number power z) in
      let first : so_far method number (suc power) ≡ gap_marks (filled_of number power) (suc power)
      ++ part method (number % 10 ^ suc power) = rw t refl in
      first ∙ ap₂ (λ first back. first ++ back) (gap-step number power) same
      ∙ append_assoc (kept (nat_lt 0 (below_of number power)) (digit 0))
      (gap_marks (filled_of number power) power) (part method (number % 10 ^ power))
      ∙ sym (power-zero power (at number power) (nat_lt 0 (below_of number power))
      (so_far method number power) z)

-- the same if there may be no digit above: 零 is written if the number reaches beyond the power
abbrev pub so_far_in : ChineseCountMethod → ℕ → ℕ → List Mark
so_far_in method number power = (if nat_le (10 ^ power) number
    then gap_marks (filled_of number power) power else []) ++ part method (number % 10 ^ power)

and-true : (b : Bool) → b ≡ (b && true)
and-true true = refl
and-true false = refl

-- a number reaches its highest power
reaches-power : (number power : ℕ) → number < 10 ^ suc power → 0 < at number power
    → 10 ^ power ≤ number
reaches-power number power less pos =
    let next : power + 1 ≡ suc power = omega arith in
    let split : number % 10 ^ suc power ≡ at number power * 10 ^ power + number % 10 ^ power =
    rw next at (lower-split 1 number power) in
    let whole : number % 10 ^ suc power ≡ number = mod-eq_of_lt less in
    let one : 1 * 10 ^ power ≤ at number power * 10 ^ power = mul-le-mul_right (10 ^ power) pos in
    omega (arith, split, whole, one)

stays-below : (number power : ℕ) → number < 10 ^ suc power → at number power ≡ 0
    → number < 10 ^ power
stays-below number power less none =
    let next : power + 1 ≡ suc power = omega arith in
    let split : number % 10 ^ suc power ≡ at number power * 10 ^ power + number % 10 ^ power =
    rw next at (lower-split 1 number power) in
    let whole : number % 10 ^ suc power ≡ number = mod-eq_of_lt less in
    let zero : at number power * 10 ^ power ≡ 0 = rw none (omega arith) in
    omega (arith, split, whole, zero, lower-less number power)

step-in : (method : ChineseCountMethod) (number power : ℕ) → power < powers_within method
    → power < own_limit method
    → so_far_in method number (suc power)
    ≡ digit_marks power (at number power)
    (nat_lt 0 (below_of number power) && nat_le (10 ^ suc power) number)
    ++ so_far_in method number power
step-in method number power within own =
    by (dec_lt number (10 ^ suc power)) (dec_lt 0 (at number power)) where
      by : Dec (number < 10 ^ suc power) → Dec (0 < at number power)
          → so_far_in method number (suc power)
          ≡ digit_marks power (at number power)
          (nat_lt 0 (below_of number power) && nat_le (10 ^ suc power) number)
          ++ so_far_in method number power
      by (no reach) any =
          let up : nat_le (10 ^ suc power) number ≡ true = grind (arith, nat_tests, reach) in
          let raised : 10 ^ suc power ≡ 10 * 10 ^ power = omega arith in
          let lower : 10 ^ power ≤ number = omega (arith, reach, raised) in
          let here : nat_le (10 ^ power) number ≡ true = grind (arith, nat_tests, lower) in
          rw (up, here, ← and-true (nat_lt 0 (below_of number power))) (step method number power
          within own)
      by (yes less) (yes pos) =
          let up : nat_le (10 ^ suc power) number ≡ false = grind (arith, nat_tests, less) in
          let lower : 10 ^ power ≤ number = reaches-power number power less pos in
          let here : nat_le (10 ^ power) number ≡ true = grind (arith, nat_tests, lower) in
          let held = Filled number power in
          rw (up, here) (some-digit method number power (filled_of number power)
          (nat_lt 0 (below_of number power) && false) within own pos held.0 held.1)
      by (yes less) (no none) =
          let up : nat_le (10 ^ suc power) number ≡ false = grind (arith, nat_tests, less) in
          let z : at number power ≡ 0 = omega (arith, none) in
          let lower : number < 10 ^ power = stays-below number power less z in
          let here : nat_le (10 ^ power) number ≡ false = grind (arith, nat_tests, lower) in
          let next : power + 1 ≡ suc power = omega arith in
          let same : part method (number % 10 ^ suc power) ≡ part method (number % 10 ^ power) =
          rw next at (part-same method number power z) in
          rw (up, here, and-false (nat_lt 0 (below_of number power))) (same
          ∙ sym (power-zero power (at number power) false (part method (number % 10 ^ power)) z))

own-lowest : (method : ChineseCountMethod) (power : ℕ) → power < 4
    → (power < own_limit method) × (power < powers_within method)
own-lowest Low power four = (omega (arith, four), omega (arith, four))
own-lowest method power four = (four, omega (arith, four))

-- the spelling of a section, under any method
pub section-is : (method : ChineseCountMethod) (section : ℕ) → section < 10 ^ 4
    → part method section ≡ section_marks section
section-is method section small =
    let own0 = own-lowest method 0 (omega arith) in
    let own1 = own-lowest method 1 (omega arith) in
    let own2 = own-lowest method 2 (omega arith) in
    let own3 = own-lowest method 3 (omega arith) in
    let is0 : at section 0 ≡ section % 100 % 10 = omega arith in
    let is1 : at section 1 ≡ section % 100 / 10 = omega arith in
    let is2 : at section 2 ≡ section / 100 % 10 = omega arith in
    let is3 : at section 3 ≡ section / 100 / 10 = omega (arith, small) in
    let past : nat_le (10 ^ 4) section ≡ false = grind (arith, nat_tests, small) in
    let whole : section % 10 ^ 4 ≡ section = mod-eq_of_lt small in
    let last : so_far_in method section 4 ≡ part method section = rw (past, whole) refl in
    let flag3 : (nat_lt 0 (below_of section 3) && nat_le (10 ^ 4) section) ≡ false =
    rw past (and-false (nat_lt 0 (below_of section 3))) in
    let first : so_far_in method section 0 ≡ [] =
    ap (λ marks. marks ++ part method (section % 10 ^ 0)) (nothing (nat_le (10 ^ 0) section))
    ∙ part-none method section in
    sym last ∙ step-in method section 3 own3.1 own3.0
    ∙ ap₂ (λ value is_gap. digit_marks 3 value is_gap ++ so_far_in method section 3) is3 flag3
    ∙ ap (λ marks. digit_marks 3 (section / 100 / 10) false ++ marks)
    (step-in method section 2 own2.1 own2.0
    ∙ ap₂ (λ value below. digit_marks 2 value (nat_lt 0 below && nat_le 1000 section)
    ++ so_far_in method section 2) is2 is1
    ∙ ap (λ marks. digit_marks 2 (section / 100 % 10)
    (nat_lt 0 (section % 100 / 10) && nat_le 1000 section)
    ++ marks) (step-in method section 1 own1.1 own1.0
    ∙ ap₂ (λ value below. digit_marks 1 value (nat_lt 0 below && nat_le 100 section)
    ++ so_far_in method section 1) is1 is0
    ∙ ap (λ marks. digit_marks 1 (section % 100 / 10)
    (nat_lt 0 (section % 100 % 10) && nat_le 100 section)
    ++ marks) (step-in method section 0 own0.1 own0.0
    ∙ ap₂ (λ value marks. digit_marks 0 value false ++ marks) is0 first
    ∙ append-nil (digit_marks 0 (section % 100 % 10) false)))) where
      nothing : (b : Bool) → (if b then gap_marks 0 0 else []) ≡ []
      nothing true = refl
      nothing false = refl
