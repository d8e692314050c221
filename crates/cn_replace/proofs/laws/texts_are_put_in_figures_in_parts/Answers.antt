use Rattle.cn_replace.proofs.Parts.{in_figures-in_parts}
use Rattle.cn_replace.proofs.laws.texts_are_put_in_figures_in_parts.Goals as goal

pub returns : goal.returns
returns c = in_figures-in_parts c.args.method c.args.figures c.args.wanted
