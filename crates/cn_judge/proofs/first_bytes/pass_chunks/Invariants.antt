use Rattle.std.proofs.Common.{◌-◌, length}
use Rattle.cn_judge.specs.Private.Firsts.{PassesFirsts}
use Rattle.cn_judge.proofs.first_bytes.pass_chunks.Given as goal

abbrev pub invariant-chunks : goal.invariant-chunks
invariant-chunks l = record { passed : PassesFirsts l.bytes l.fn.many l.passed l.left }

abbrev pub decreases-chunks : goal.decreases-chunks
decreases-chunks l = length l.bytes - l.passed

abbrev pub invariant-last : goal.invariant-last
invariant-last l = record { passed : PassesFirsts l.bytes l.fn.many l.passed l.left }

abbrev pub decreases-last : goal.decreases-last
decreases-last l = length l.bytes - l.passed
