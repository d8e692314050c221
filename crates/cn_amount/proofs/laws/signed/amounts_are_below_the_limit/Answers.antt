use Rattle.std.proofs.Common.{nat_abs, ap, ◌∙◌, arith}
use Rattle.cn_amount.proofs.Runs.{amount-below}
use Rattle.cn_amount.proofs.SignedShown.{magnitude-is}
use Rattle.cn_amount.proofs.laws.signed.amounts_are_below_the_limit.Goals as goal

pub returns : goal.returns
returns c = λ text fen h. omega (
  arith,
  ap nat_abs h.value ∙ magnitude-is _ h.magnitude,
  h.form.value,
  amount-below h.form.places h.form.digits,
)
