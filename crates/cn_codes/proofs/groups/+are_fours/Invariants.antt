use Rattle.std.proofs.Common.{length}
use Rattle.cn_codes.proofs.groups.+are_fours.Given as goal

abbrev pub decreases-are_fours : goal.decreases-are_fours
decreases-are_fours l = length l.groups.now
