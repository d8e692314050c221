use Rattle.std.proofs.Common.{arith}
use Rattle.cn_judge.proofs.Stacks.{total-past, some_entries}
use Rattle.cn_judge.proofs.open_units.OpenUnits.close_all.Goals as goal

pub returns-in_err-closed : goal.returns-in_err-closed
returns-in_err-closed c =
    let inv = c.closing.invariant in
    let past = total-past _ _ _ (some_entries _ _ _ c.self.view_is c.closing-test.true)
    c.in_err-closed.ensures inv.positive in
    rw c.from_residual.ensures (λ small. past (omega (arith, inv.sum, small)))
