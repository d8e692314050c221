use Rattle.cn_grammar.proofs.OneAnswer.{one-value}
use Rattle.cn_grammar.proofs.laws.each_text_is_one_value.Goals as goal

pub returns : goal.returns
returns g c = one-value g.G.Grammar.is_form g.G.Grammar.machine c.states_read_the_forms.ensures
