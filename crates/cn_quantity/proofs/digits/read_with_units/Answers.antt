use Rattle.std.proofs.Common.{sym}
use Rattle.cn_core.specs.Text.{text_of}
use Rattle.cn_quantity.proofs.Growing.{times_units-over}
use Rattle.cn_quantity.proofs.digits.read_with_units.Goals as goal

pub returns-in_err-read_on : goal.returns-in_err-read_on
returns-in_err-read_on c =
    rw c.from_residual.ensures
    (sym (times_units-over c.args.method _ (text_of c.args.text.now) c.in_err-read_on.ensures))
