use Rattle.std.proofs.Common.{chars, length}
use Rattle.cn_speech.proofs.codes.+has_points.Given as goal

abbrev pub decreases-has_points : goal.decreases-has_points
decreases-has_points l = length (chars l.text.now)
