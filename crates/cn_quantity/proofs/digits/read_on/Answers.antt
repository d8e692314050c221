use Rattle.std.proofs.Common.{rules}
use Rattle.cn_core.specs.Text.{text_of}
use Rattle.cn_quantity.proofs.Growing.{read_on-past}
use Rattle.cn_quantity.proofs.digits.read_on.Goals as goal

pub returns-in_err-longer : goal.returns-in_err-longer
returns-in_err-longer c =
    rw c.from_residual.ensures
    (read_on-past c.args.kind c.args.number c.reading.longer _ _ (text_of c.args.text.now) _ _
    c.reading.invariant.same c.in-Some.ensures.parts.text (search rules) c.in_err-longer.ensures)

pub returns : goal.returns
returns c =
    let same = rw c.in_default.ensures.parts at c.reading.invariant.same in
    (rw (← same) c.reading.invariant.fits, same)
