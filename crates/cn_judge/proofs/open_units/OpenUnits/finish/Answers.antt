use Rattle.std.proofs.Common.{◌+◌, arith}
use Rattle.cn_judge.proofs.Stacks.{total-grows}
use Rattle.cn_judge.proofs.open_units.OpenUnits.finish.Goals as goal

pub returns-in_err-checked_add : goal.returns-in_err-checked_add
returns-in_err-checked_add c =
    let grows = total-grows c.args.self.now (c.args.sum + c.args.digit) c.requires in
    rw c.from_residual.ensures (λ small. omega (arith, grows, small, c.in_err-checked_add.ensures))
