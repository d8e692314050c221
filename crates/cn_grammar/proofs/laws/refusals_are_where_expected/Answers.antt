use Rattle.cn_grammar.proofs.OneExpectation.{where-refused}
use Rattle.cn_grammar.proofs.laws.refusals_are_where_expected.Goals as goal

pub returns : goal.returns
returns g c = where-refused g.G.Grammar.is_form
