use Rattle.std.proofs.Common.{nat_abs, ap, ◌∙◌, arith}
use Rattle.cn_amount.proofs.Runs.{amount-below}
use Rattle.cn_amount.proofs.SignedShown.{magnitude-is}
use Rattle.cn_amount.proofs.laws.typed_signed.amounts_are_below_the_limit.Goals as goal

pub returns : goal.returns
returns c = λ text fen h.
    let form = h.form.form in
    omega (
      arith,
      ap nat_abs h.value ∙ magnitude-is h.below h.magnitude,
      form.value,
      amount-below form.places form.digits,
    )
