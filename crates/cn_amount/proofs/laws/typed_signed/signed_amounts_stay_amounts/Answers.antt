use Rattle.cn_amount.proofs.TypedShown.{signed-typed}
use Rattle.cn_amount.proofs.laws.typed_signed.signed_amounts_stay_amounts.Goals as goal

pub returns : goal.returns
returns c = signed-typed
