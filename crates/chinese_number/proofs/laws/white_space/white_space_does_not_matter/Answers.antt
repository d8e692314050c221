use Rattle.chinese_number.proofs.WhiteSpace.{Reads-same_text}
use Rattle.chinese_number.proofs.laws.white_space.white_space_does_not_matter.Goals as goal

pub returns-clause-units : goal.returns-clause-units
returns-clause-units c = Reads-same_text
