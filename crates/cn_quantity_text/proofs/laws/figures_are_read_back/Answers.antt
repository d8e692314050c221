use Rattle.cn_quantity_text.proofs.FiguresBack.{figures-back}
use Rattle.cn_quantity_text.proofs.laws.figures_are_read_back.Goals as goal

pub returns : goal.returns
returns c = figures-back
