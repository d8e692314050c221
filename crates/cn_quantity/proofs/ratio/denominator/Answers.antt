use Rattle.cn_quantity.proofs.Growing.{power-over}
use Rattle.cn_quantity.proofs.ratio.denominator.Goals as goal

pub returns-in_err-power_of_ten : goal.returns-in_err-power_of_ten
returns-in_err-power_of_ten c =
    rw c.from_residual.ensures
    (power-over c.args.divisor c.args.decimals c.requires c.in_err-power_of_ten.ensures)
