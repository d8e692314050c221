use Rattle.std.proofs.Common.{length}
use Rattle.cn_codes.proofs.groups.+have_signs.Given as goal

abbrev pub decreases-have_signs : goal.decreases-have_signs
decreases-have_signs g l = length l.groups.now
