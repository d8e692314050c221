use Rattle.std.proofs.Common.{length}
use Rattle.cn_codes.proofs.groups.+after_groups.Given as goal

abbrev pub decreases-after_groups : goal.decreases-after_groups
decreases-after_groups l = length l.groups.now
