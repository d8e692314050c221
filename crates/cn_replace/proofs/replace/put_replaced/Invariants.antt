use Rattle.std.proofs.Common.{length}
use Rattle.cn_replace.proofs.Replacing.{Put}
use Rattle.cn_replace.proofs.replace.put_replaced.Given as goal

abbrev pub invariant-replacing : goal.invariant-replacing
invariant-replacing g l = Put g.S.Sink.took (g.R.Replacement.new l.replacement) l.fn.wanted l.text l.fn.sink l.sink l.from l.left

abbrev pub decreases-replacing : goal.decreases-replacing
decreases-replacing g l = length l.left
