use Rattle.std.proofs.Common.{length}
use Rattle.cn_find.proofs.words.+is_exactly.Given as goal

abbrev pub decreases-is_exactly : goal.decreases-is_exactly
decreases-is_exactly l = length l.these.now
