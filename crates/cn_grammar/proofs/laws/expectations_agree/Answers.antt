use Rattle.cn_grammar.proofs.OneExpectation.{agree}
use Rattle.cn_grammar.proofs.laws.expectations_agree.Goals as goal

pub returns : goal.returns
returns g c = agree g.G.Grammar.is_form
