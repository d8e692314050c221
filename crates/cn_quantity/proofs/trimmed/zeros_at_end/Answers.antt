use Rattle.std.proofs.Common.{◌≡◌, ◌+◌, ◌-◌, suc, arith}
use Rattle.cn_quantity.proofs.Trims.{zeros-next, zeros-stop}
use Rattle.cn_quantity.proofs.trimmed.zeros_at_end.Goals as goal

pub loop-zeros-preserved : goal.loop-zeros-preserved
loop-zeros-preserved c =
    let l = c.loop-zeros in
    let left : c.args.count - l.zeros ≡ suc (c.args.count - (l.zeros + 1)) = omega arith in
    let now = rw left at l.invariant in
    let more = zeros-next (c.args.count - (l.zeros + 1)) l.left c.if-left-gt0.false in
    omega (arith, now, more)

pub returns-then-left-gt0-clause-value : goal.returns-then-left-gt0-clause-value
returns-then-left-gt0-clause-value c =
    let l = c.loop-zeros in
    let stop = zeros-stop (c.args.count - l.zeros) l.left c.if-left-gt0.true in
    omega (arith, l.invariant, stop)
