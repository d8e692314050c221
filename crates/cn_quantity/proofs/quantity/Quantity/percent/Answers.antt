use Rattle.std.proofs.Common.{◌≡◌, ℕ, ◌+◌, ◌*◌, ◌^◌, refl, ◌∙◌, arith}
use mir.Syntax.{w128}
use Rattle.std.proofs.lemmas.Int.{to_z-of_z}
use Rattle.std.proofs.lemmas.Nat.{pow-add}
use Rattle.cn_quantity.proofs.quantity.Quantity.percent.Goals as goal

hundred : (n : ℕ) → 10 ^ (n + 2) ≡ 100 * 10 ^ n
hundred n = let more = pow-add 10 n 2 in omega (arith, more)

pub returns : goal.returns
returns c =
    let same = to_z-of_z w128 c.args.numerator c.ranges.numerator in
    let power = c.in_ok-denominator.ensures.1 ∙ hundred c.args.decimals in
    (omega (arith, c.in_ok-denominator.ensures.0), rw (same, power) refl)
