use Rattle.cn_replace.proofs.Staying.{figures-stay}
use Rattle.cn_replace.proofs.laws.figures_stay.Goals as goal

pub returns : goal.returns
returns c = λ compact codes span e. figures-stay c.args.method c.args.included compact codes span e
