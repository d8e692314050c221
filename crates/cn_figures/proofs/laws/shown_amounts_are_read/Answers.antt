use Rattle.cn_figures.proofs.ShownRead.{amounts}
use Rattle.cn_figures.proofs.laws.shown_amounts_are_read.Goals as goal

pub returns : goal.returns
returns c = amounts
