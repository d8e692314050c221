use Rattle.cn_amount.proofs.TypedShown.{amount-typed}
use Rattle.cn_amount.proofs.laws.typed.amounts_stay_amounts.Goals as goal

pub returns : goal.returns
returns c = amount-typed
