use Rattle.std.proofs.Common.{◌∙◌}
use Rattle.cn_date.proofs.CapitalTable.{capital-is}
use Rattle.cn_date.proofs.capital.capital_of.Goals as goal

pub returns : goal.returns
returns c = c.known_in.ensures ∙ capital-is _ _ c.entry.ensures
