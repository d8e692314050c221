use Rattle.cn_amount.proofs.FormsShown.{written-read}
use Rattle.cn_amount.proofs.laws.written_amounts_are_amounts.Goals as goal

pub returns : goal.returns
returns c = written-read
