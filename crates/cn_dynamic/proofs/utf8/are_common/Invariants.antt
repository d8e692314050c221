use Rattle.std.proofs.Common.{length}
use Rattle.cn_dynamic.proofs.Characters.{IsBehind}
use Rattle.cn_dynamic.proofs.utf8.are_common.Given as goal

abbrev pub invariant-characters : goal.invariant-characters
invariant-characters l = IsBehind l.bytes l.rest

abbrev pub decreases-characters : goal.decreases-characters
decreases-characters l = length l.rest
