use Rattle.cn_core.specs.Text.{text_of}
use Rattle.cn_quantity.proofs.Points.{no-decimals}
use Rattle.cn_quantity.proofs.decimal.split_decimal.Goals as goal

pub returns-in_err-decimals-clause-decimal : goal.returns-in_err-decimals-clause-decimal
returns-in_err-decimals-clause-decimal c =
    rw c.from_residual-in_err-decimals.ensures
    (no-decimals (text_of c.args.text.now) _ c.in_ok-whole.ensures.parts.behind_is
    c.in_err-decimals.ensures)
