use Rattle.cn_find.proofs.Marks.{unit_by_mark}
use Rattle.cn_find.proofs.flags.is_unit.Goals as goal

pub returns-in_default : goal.returns-in_default
returns-in_default c = λ d same. unit_by_mark d c.args.mark same c.in_default.not-Unit
