use Rattle.cn_grammar.proofs.OneAnswer.{each-answer}
use Rattle.cn_grammar.proofs.laws.each_text_has_one_answer.Goals as goal

pub returns : goal.returns
returns g c = each-answer g.G.Grammar.is_form g.G.Grammar.machine c.states_read_the_forms.ensures
