use Rattle.std.proofs.Common.{Some, ap, refl}
use Rattle.cn_dynamic.proofs.read.explain_as.Goals as goal

pub returns-in-Ok : goal.returns-in-Ok
returns-in-Ok c = (_, c.in-Ok.ensures.answer, refl)

pub returns-in-Err : goal.returns-in-Err
returns-in-Err c = (_, c.in-Err.ensures.answer, ap Some c.fault_by.ensures)
