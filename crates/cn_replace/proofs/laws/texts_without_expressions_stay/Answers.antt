use Rattle.cn_replace.proofs.Staying.{none-found}
use Rattle.cn_replace.proofs.laws.texts_without_expressions_stay.Goals as goal

pub returns : goal.returns
returns c = λ bytes none. none-found c.args.method c.args.figures c.args.wanted bytes none
