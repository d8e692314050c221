use Rattle.cn_quantity_text.proofs.ClearTexts.{magnitude-not_misread}
use Rattle.cn_quantity_text.proofs.laws.no_spelling_is_misread.Goals as goal

pub returns : goal.returns
returns c = magnitude-not_misread
