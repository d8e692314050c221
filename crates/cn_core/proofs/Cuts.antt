-- Under each method, a spelling can be cut at each unit that it holds.
use Rattle.std.proofs.Common.{◌≡◌, ℕ, zero, suc, ◌+◌, ◌*◌, ◌/◌, ◌%◌, ◌<◌, ◌≤◌, false, ◌==◌, ◌&&◌, nat_le, nat_lt, List, [], ◌∷◌, ◌++◌, if◌then◌else◌, refl, sym, ◌∙◌, arith}
use Rattle.std.proofs.lemmas.Bool.Decides.{nat_tests}
use Rattle.std.proofs.Math.Decide.{dec_lt}
use Rattle.std.proofs.Math.Nat.{mul-le-mul_left, mul-le-mul_right}
use Rattle.std.proofs.lemmas.Nat.{div-mul-add, mod-mul-add}
use Rattle.cn_core.specs.declared.method.ChineseCountMethod.{ChineseCountMethod}
use Rattle.cn_core.specs.Mark.{Mark, digit, unit}
use Rattle.cn_core.specs.Scale.{scale}
use Rattle.cn_core.specs.Spelling.{spelling_within, greatest_unit, after_unit}
use Rattle.cn_core.proofs.ScaleLaws.{IsGreatest-unit, greatest-scale, scale-ten}
use Rattle.cn_core.proofs.Spellings.{IsCut-greatest, spelled-step}
use Rattle.cn_core.proofs.Sums.{spelled-digit}

-- the spelling of a number as a part of another spelling: empty for 0
abbrev pub part : ChineseCountMethod → ℕ → List Mark
part method number = if number == 0 then [] else spelling_within number method number

-- 零 after a unit of this size, if the remainder is positive and below a tenth of the size
abbrev pub gap : ℕ → ℕ → List Mark
gap below size = if nat_lt 0 below && nat_lt below (size / 10) then digit 0 ∷ [] else []

-- with at least as many steps as the number, the number of steps does not matter
pub spelled-fuel : (steps more : ℕ) (method : ChineseCountMethod) (number : ℕ) → number ≤ steps
    → number ≤ more → number < scale method 15 * scale method 15
    → spelling_within steps method number ≡ spelling_within more method number
spelled-fuel zero more method number a b small = let e : number ≡ 0 =
    omega (arith, a) in rw e (sym (spelled-digit more method 0 (omega arith)))
spelled-fuel (suc steps) zero method number a b small = let e : number ≡ 0 =
    omega (arith, b) in rw e (spelled-digit (suc steps) method 0 (omega arith))
spelled-fuel (suc steps) (suc more) method number a b small =
    by (dec_lt number 10) (λ n. spelled-fuel steps more method n) where
      by : Dec (number < 10) → ((n : ℕ) → n ≤ steps → n ≤ more
          → n < scale method 15 * scale method 15
          → spelling_within steps method n ≡ spelling_within more method n)
          → spelling_within (suc steps) method number ≡ spelling_within (suc more) method number
      by (yes h) rest = spelled-digit (suc steps) method number h
          ∙ sym (spelled-digit (suc more) method number h)
      by (no h) rest =
          let ten : 10 ≤ number = omega (arith, h) in
          let cut = IsCut-greatest method number ten small in
          let rank = greatest_unit method number in
          let q = rest (number / scale method rank) (omega (arith, cut.smaller, a))
          (omega (arith, cut.smaller, b)) (omega (arith, cut.smaller, small)) in
          let r = rest (number % scale method rank) (omega (arith, cut.remainder, cut.size, a))
          (omega (arith, cut.remainder, cut.size, b)) (omega (
            arith,
            cut.remainder,
            cut.size,
            small,
          )) in
          rw (spelled-step steps method number ten, spelled-step more method number ten, q, r) refl

-- the greatest unit of a number is the one that the number reaches while it reaches no greater one
pub greatest-is : (method : ChineseCountMethod) (number rank : ℕ) → 10 ≤ number
    → scale method rank ≤ number → rank ≤ 15
    → ((more : ℕ) → rank < more → more ≤ 15 → number < scale method more)
    → greatest_unit method number ≡ rank
greatest-is method number rank ten size high above =
    by (dec_lt (greatest_unit method number) rank) (dec_lt rank (greatest_unit method number)) where
      by : Dec (greatest_unit method number < rank) → Dec (rank < greatest_unit method number)
          → greatest_unit method number ≡ rank
      by (yes less) other =
          let g = IsGreatest-unit method number ten in
          let test : nat_le (scale method rank) number ≡ false = g.above rank less high in
          absurd (grind (arith, nat_tests, test, size))
      by (no l) (yes more) =
          let g = IsGreatest-unit method number ten in
          absurd (omega (
            arith,
            greatest-scale method number ten,
            above (greatest_unit method number) more g.high,
          ))
      by (no l) (no m) = omega (arith, l, m)

after_unit-gap : (method : ChineseCountMethod) (below size steps : ℕ)
    → spelling_within steps method below ≡ spelling_within below method below
    → after_unit below size (spelling_within steps method below)
    ≡ gap below size ++ part method below
after_unit-gap method below size steps e = rw e refl

pub part-some : (method : ChineseCountMethod) (number : ℕ) → 0 < number
    → part method number ≡ spelling_within number method number
part-some method number h = let e : (number == 0) ≡ false = grind (arith, nat_tests) in rw e refl

-- the spelling of a number whose greatest unit has this rank
pub part-cut : (method : ChineseCountMethod) (high below rank : ℕ) → 1 ≤ rank → rank ≤ 15
    → 0 < high → below < scale method rank
    → ((more : ℕ) → rank < more → more ≤ 15 → high * scale method rank + below < scale method more)
    → high * scale method rank + below < scale method 15 * scale method 15
    → part method (high * scale method rank + below)
    ≡ part method high ++ (unit rank ∷ (gap below (scale method rank) ++ part method below))
part-cut method high below rank one last pos low above small =
    let size = scale method rank in
    let number = high * size + below in
    let ten : 10 ≤ size = scale-ten method rank one in
    let reach : 1 * size ≤ high * size = mul-le-mul_right size (omega (arith, pos)) in
    let more : high * 1 ≤ high * size = mul-le-mul_left high (omega (arith, ten)) in
    let g : greatest_unit method number ≡ rank =
    greatest-is method number rank (omega (arith, reach, ten)) (omega (arith, reach)) last
    above in
    let q : number / size ≡ high = div-mul-add high size below low in
    let r : number % size ≡ below = mod-mul-add high size below low in
    let high_fuel : spelling_within number method high ≡ spelling_within high method high =
    spelled-fuel number high method high (omega (arith, more)) (omega arith)
    (omega (arith, more, small)) in
    let low_fuel : spelling_within number method below ≡ spelling_within below method below =
    spelled-fuel number below method below (omega arith) (omega arith) (omega (arith, small)) in
    part-some method number (omega (arith, reach, ten))
    ∙ spelled-fuel number (suc number) method number (omega arith) (omega arith) small
    ∙ rw (
      spelled-step number method number (omega (arith, reach, ten)),
      g,
      q,
      r,
      high_fuel,
      after_unit-gap method below size number low_fuel,
      part-some method high pos,
    ) refl
