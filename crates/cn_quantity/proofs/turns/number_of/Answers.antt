use Rattle.std.proofs.Common.{sym, ◌∙◌}
use Rattle.cn_quantity.proofs.Groups.{number-past}
use Rattle.cn_quantity.proofs.turns.number_of.Goals as goal

pub returns-in_err-number : goal.returns-in_err-number
returns-in_err-number c =
    c.from_residual.ensures
    ∙ sym (number-past c.reading.number _ _ _ _ _ c.reading.invariant.same
    c.in-Some.ensures.parts.text (sym c.in-Some-digit_by.ensures) c.in_err-number.ensures)
