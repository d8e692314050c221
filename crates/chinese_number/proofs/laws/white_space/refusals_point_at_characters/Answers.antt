use Rattle.chinese_number.proofs.CharIndexes.{Reads-points, naive_reading-points}
use Rattle.chinese_number.proofs.laws.white_space.refusals_point_at_characters.Goals as goal

pub returns : goal.returns
returns c = record { units = Reads-points; digits = naive_reading-points }
