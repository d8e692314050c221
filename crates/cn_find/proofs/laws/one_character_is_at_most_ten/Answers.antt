use Rattle.cn_find.proofs.OneCharacter.{at-most-ten}
use Rattle.cn_find.proofs.laws.one_character_is_at_most_ten.Goals as goal

pub returns : goal.returns
returns c = at-most-ten
