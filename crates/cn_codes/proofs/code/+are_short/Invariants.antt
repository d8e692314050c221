use Rattle.std.proofs.Common.{length}
use Rattle.cn_codes.proofs.code.+are_short.Given as goal

abbrev pub decreases-are_short : goal.decreases-are_short
decreases-are_short l = length l.groups.now
