use Rattle.std.proofs.Common.{arith}
use Rattle.cn_core.specs.Characters.{rank}
use Rattle.cn_judge.proofs.Stacks.{closed-past}
use Rattle.cn_judge.proofs.UnitOrder.{below}
use Rattle.cn_judge.proofs.open_units.OpenUnits.close_below.Goals as goal

pub returns-in_err-closed-clause-sum : goal.returns-in_err-closed-clause-sum
returns-in_err-closed-clause-sum c =
    let inv = c.closing.invariant in
    let past = closed-past (rank c.args.unit) _ _ _ _ c.in-Some.ensures (below _ _ c.if-ge.ensures)
    c.in_err-closed.ensures inv.positive in
    rw c.from_residual.ensures (λ small. past (omega (arith, inv.sum, small)))
