use Rattle.cn_amount.proofs.FormsShown.{written-read}
use Rattle.cn_amount.proofs.TypedShown.{amount-typed}
use Rattle.cn_amount.proofs.laws.typed.written_amounts_are_amounts.Goals as goal

pub returns : goal.returns
returns c = λ variant form amount low.
    amount-typed _ amount (written-read variant form amount low)
