use Rattle.cn_amount.proofs.SignedShown.{amount-signed}
use Rattle.cn_amount.proofs.laws.signed.amounts_stay_amounts.Goals as goal

pub returns : goal.returns
returns c = amount-signed
