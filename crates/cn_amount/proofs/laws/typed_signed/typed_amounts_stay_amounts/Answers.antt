use Rattle.cn_amount.proofs.TypedShown.{typed-signed}
use Rattle.cn_amount.proofs.laws.typed_signed.typed_amounts_stay_amounts.Goals as goal

pub returns : goal.returns
returns c = typed-signed
