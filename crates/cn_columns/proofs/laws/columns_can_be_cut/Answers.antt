use Rattle.cn_columns.proofs.Cuts.{ends-cut, rows-cut, texts-cut}
use Rattle.cn_columns.proofs.laws.columns_can_be_cut.Goals as goal

pub returns : goal.returns
returns c = record { rows = rows-cut; texts = texts-cut; ends = ends-cut }
