use Rattle.std.proofs.Common.{arith}
use Rattle.cn_amount.proofs.Runs.{amount-below}
use Rattle.cn_amount.proofs.laws.typed.amounts_are_below_the_limit.Goals as goal

pub returns : goal.returns
returns c = λ text fen h.
    omega (arith, h.form.value, amount-below h.form.places h.form.digits)
