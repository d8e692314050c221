use Rattle.std.proofs.Common.{arith, get_or, sym}
use Rattle.cn_judge.proofs.Firsts.{firsts-none, firsts-next, first_count-most}
use Rattle.cn_judge.proofs.first_bytes.firsts_of.Goals as goal

pub bytes-init : goal.bytes-init
bytes-init c = record { counted = sym (firsts-none _); few = omega arith }

pub bytes-preserved : goal.bytes-preserved
bytes-preserved c =
    let before = c.bytes.invariant in
    let count = c.first_count-count.ensures in
    record {
      counted = omega (arith, before.counted, count, firsts-next c.args.bytes.now c.bytes.index);
      few = omega (arith, before.few, count, first_count-most (get_or c.args.bytes.now c.bytes.index 0));
    }
