use Rattle.std.proofs.Common.{◌≡◌, ◌+◌, ◌*◌, ◌^◌, ◌≤◌, ℕ, IfSome, Option, Some, None, arith, rules}
use mir.Syntax.{w128}
use mir.Val.{Fits}
use Rattle.cn_quantity.proofs.Trims.{few, raised}
use Rattle.cn_quantity.proofs.trimmed.decimals_of.Goals as goal

fits : (decimals denominator : ℕ) → 10 * 10 ^ decimals ≡ denominator → Fits w128 denominator
    → decimals + 1 ≤ 38
fits decimals denominator exact small =
    let more = raised decimals in few 1 (decimals + 1) (omega arith) (omega (arith, more, exact, small.fits))

some-fit : (found : Option ℕ) (denominator : ℕ)
    → IfSome found (λ decimals. 100 * 10 ^ decimals ≡ denominator) → Fits w128 denominator
    → IfSome found (λ decimals. decimals ≤ 38)
some-fit None denominator exact small = search rules
some-fit (Some decimals) denominator exact small = few 100 decimals (omega arith) (omega (arith, exact, small.fits))

pub overflow_add-result : goal.overflow_add-result
overflow_add-result c =
    let small : Fits w128 c.args.quantity.denominator = search rules in
    let less = fits _ c.args.quantity.denominator c.in_ok-decimals_over-in-Decimal.ensures.exact small in
    record { fits = omega (arith, less) }

pub returns-in_ok-decimals_over-in-Decimal-clause-most :
    goal.returns-in_ok-decimals_over-in-Decimal-clause-most
returns-in_ok-decimals_over-in-Decimal-clause-most c =
    let small : Fits w128 c.args.quantity.denominator = search rules in
    fits _ c.args.quantity.denominator c.in_ok-decimals_over-in-Decimal.ensures.exact small

pub returns-in-Percent-clause-most : goal.returns-in-Percent-clause-most
returns-in-Percent-clause-most c =
    let small : Fits w128 c.args.quantity.denominator = search rules in
    some-fit _ _ c.decimals_over-in-Percent.ensures.exact small
