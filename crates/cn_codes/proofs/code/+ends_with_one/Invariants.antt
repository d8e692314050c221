use Rattle.std.proofs.Common.{length}
use Rattle.cn_codes.proofs.code.+ends_with_one.Given as goal

abbrev pub decreases-ends_with_one : goal.decreases-ends_with_one
decreases-ends_with_one l = length l.groups.now
