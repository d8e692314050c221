use Rattle.std.proofs.Common.{length}
use Rattle.cn_codes.proofs.groups.+are.Given as goal

abbrev pub decreases-are : goal.decreases-are
decreases-are l = length l.groups.now
