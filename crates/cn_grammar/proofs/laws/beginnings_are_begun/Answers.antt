use Rattle.cn_grammar.proofs.OneAnswer.{never-incorrect}
use Rattle.cn_grammar.proofs.laws.beginnings_are_begun.Goals as goal

pub returns : goal.returns
returns g c = never-incorrect g.G.Grammar.is_form
