use Rattle.std.proofs.Common.{◌≡◌, ◌+◌, ◌-◌, ◌*◌, ◌^◌, ◌<◌, suc, sym, ◌∙◌, arith}
use Rattle.cn_quantity.proofs.Trims.{over-all, over-here, over-next, over-none, over-end, raised}
use Rattle.cn_quantity.proofs.trimmed.decimals_over.Goals as goal

pub loop-decimals-init : goal.loop-decimals-init
loop-decimals-init c = record {
  reached = omega arith;
  rest = over-all c.args.divisor c.args.denominator;
}

pub returns-then-reached-denominator-clause-value : goal.returns-then-reached-denominator-clause-value
returns-then-reached-denominator-clause-value c =
    let l = c.loop-decimals in
    let left : 39 - l.decimals ≡ suc (38 - l.decimals) = omega arith in
    sym (rw left at l.invariant.rest
    ∙ over-here c.args.divisor c.args.denominator l.decimals (38 - l.decimals)
    (omega (arith, l.invariant.reached)))

pub loop-decimals-preserved : goal.loop-decimals-preserved
loop-decimals-preserved c =
    let l = c.loop-decimals in
    let left : 39 - l.decimals ≡ suc (39 - (l.decimals + 1)) = omega arith in
    let more = raised l.decimals in
    record {
      reached = rw more (omega (arith, c.in_ok-reached.ensures, l.invariant.reached));
      rest = rw left at l.invariant.rest
          ∙ over-next c.args.divisor c.args.denominator l.decimals (39 - (l.decimals + 1))
          (λ same. c.if-reached-denominator.false (l.invariant.reached ∙ same));
    }

pub returns-in_err-reached-clause-value : goal.returns-in_err-reached-clause-value
returns-in_err-reached-clause-value c =
    let l = c.loop-decimals in
    let left : 39 - l.decimals ≡ suc (39 - (l.decimals + 1)) = omega arith in
    let more = raised l.decimals in
    let great : c.args.denominator < c.args.divisor * 10 ^ (l.decimals + 1) =
    rw more (grind (
      arith,
      c.in_err-reached.ensures,
      l.invariant.reached,
      c.ranges.denominator.fits,
    )) in
    c.from_residual.ensures
    ∙ sym (rw left at l.invariant.rest
    ∙ over-next c.args.divisor c.args.denominator l.decimals (39 - (l.decimals + 1))
    (λ same. c.if-reached-denominator.false (l.invariant.reached ∙ same))
    ∙ over-none c.args.divisor c.args.denominator (l.decimals + 1) (39 - (l.decimals + 1)) great)

pub returns-clause-value : goal.returns-clause-value
returns-clause-value c =
    let l = c.loop-decimals in
    let left : 39 - l.decimals ≡ 0 = omega arith in
    sym (rw left at l.invariant.rest
    ∙ over-end c.args.divisor c.args.denominator l.decimals)
