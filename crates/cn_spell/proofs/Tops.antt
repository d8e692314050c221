-- The spelling of a number's lowest powers, digit by digit.
use Rattle.std.proofs.Common.{◌≡◌, ℕ, zero, suc, ◌+◌, ◌/◌, ◌%◌, ◌^◌, ◌<◌, ◌≤◌, true, false, nat_lt, [], ◌∷◌, ◌++◌, length, sym, ap, subst, ◌∙◌, arith, length-append, if◌then◌else◌}
use Rattle.std.proofs.lemmas.Bool.Decides.{nat_tests}
use Rattle.std.proofs.Math.Decide.{dec_lt}
use Rattle.std.proofs.Math.Nat.{mod-lt, one-le-pow}
use Rattle.cn_core.specs.declared.method.ChineseCountMethod.{ChineseCountMethod}
use Rattle.cn_core.specs.Mark.{digit}
use Rattle.cn_core.proofs.Cuts.{part, part-some}
use Rattle.cn_core.proofs.Sums.{spelled-digit}
use Rattle.cn_spell.specs.Working.Units.{powers_within, units_behind}
use Rattle.cn_spell.proofs.Walks.{Fills, HasUnits-digit, lower-less, lower-same, part-more, Fills-more}

-- the digit at a power
abbrev pub at : ℕ → ℕ → ℕ
at number power = number / 10 ^ power % 10

-- a power whose digit is 0 adds nothing
pub part-same : (method : ChineseCountMethod) (number power : ℕ) → at number power ≡ 0
    → part method (number % 10 ^ (power + 1)) ≡ part method (number % 10 ^ power)
part-same method number power none = ap (λ n. part method n) (lower-same 1 number power none)

-- any other digit is written before the lower marks
pub part-digit : (method : ChineseCountMethod) (number power filled : ℕ)
    → power < powers_within method → 0 < at number power → filled ≤ power
    → Fills filled (number % 10 ^ power)
    → part method (number % 10 ^ (power + 1)) ≡ digit (at number power)
    ∷ (units_behind method power filled ++ part method (number % 10 ^ power))
part-digit method number power filled within pos under fills =
    let d = at number power in
    let alone : part method d ≡ digit d ∷ [] = part-some method d pos
    ∙ spelled-digit d method d (mod-lt (number / 10 ^ power) (omega arith)) in
    rw alone at (part-more 1 method number power filled (HasUnits-digit method power within) pos
    under fills)

-- at first no power is filled
pub Fills-none : (number : ℕ) → Fills 0 (number % 10 ^ 0)
Fills-none number = record {
  below = λ power most. omega (arith, lower-less number 0, one-le-pow power 10 (omega arith));
  reach = λ power less. absurd (omega (arith, less));
}

pub part-none : (method : ChineseCountMethod) (number : ℕ) → part method (number % 10 ^ 0) ≡ []
part-none method number = let e : number % 10 ^ 0 ≡ 0 =
    omega (arith, lower-less number 0) in ap (λ n. part method n) e

-- the number of powers below this one that are filled
abbrev pub filled_of : ℕ → ℕ → ℕ
filled_of number zero = 0
filled_of number (suc power) = if nat_lt 0 (at number power) then suc power
    else filled_of number power

pub Filled : (number power : ℕ) → (filled_of number power ≤ power)
    × Fills (filled_of number power) (number % 10 ^ power)
Filled number zero = (omega arith, Fills-none number)
Filled number (suc power) =
    let step : power + 1 ≡ suc power = omega arith in
    elim (dec_lt 0 (at number power)) [
      | yes pos ↦
          let t : nat_lt 0 (at number power) ≡ true = grind (arith, nat_tests, pos) in
          rw t (
            omega arith,
            rw step at (Fills-more 1 number power 1
                (mod-lt (number / 10 ^ power) (omega arith)) (omega (arith, pos))),
          )
      | no none ↦
          let t : nat_lt 0 (at number power) ≡ false = grind (arith, nat_tests, none) in
          let rest = Filled number power in
          rw t (
            omega (arith, rest.0),
            rw step at (subst (Fills (filled_of number power))
                (sym (lower-same 1 number power (omega (arith, none)))) rest.1),
          )
    ]

-- with more powers there are at least as many marks
pub part-grows : (method : ChineseCountMethod) (number power : ℕ) → power < powers_within method
    → length (part method (number % 10 ^ power)) ≤ length (part method (number % 10 ^ (power + 1)))
part-grows method number power within = elim (dec_lt 0 (at number power)) [
  | yes pos ↦
      let filled = Filled number power in
      rw (
        part-digit method number power (filled_of number power) within pos filled.0 filled.1,
        length-append,
      ) (omega arith)
  | no none ↦ omega (arith, ap length (part-same method number power (omega (arith, none))))
]

pub parts-grow : (method : ChineseCountMethod) (number power steps : ℕ)
    → power + steps ≤ powers_within method → length (part method (number % 10 ^ power))
    ≤ length (part method (number % 10 ^ (power + steps)))
parts-grow method number power zero within = let e : power + 0 ≡ power =
    omega arith in rw e (omega arith)
parts-grow method number power (suc steps) within =
    let e : power + suc steps ≡ power + steps + 1 = omega arith in
    rw e (omega (
      arith,
      parts-grow method number power steps (omega (arith, within)),
      part-grows method number (power + steps) (omega (arith, within)),
    ))
