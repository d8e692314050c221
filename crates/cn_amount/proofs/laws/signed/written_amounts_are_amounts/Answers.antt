use Rattle.cn_amount.proofs.SignedShown.{written-signed}
use Rattle.cn_amount.proofs.laws.signed.written_amounts_are_amounts.Goals as goal

pub returns : goal.returns
returns c = written-signed
