use Rattle.std.proofs.Common.{arith}
use Rattle.cheque.proofs.DateFiguresRead.{month-small, day-small}
use Rattle.cheque.proofs.dates.StateGrammar.end.Goals as goal

pub overflow_cast-result : goal.overflow_cast-result
overflow_cast-result c =
    omega (arith, month-small c.args.self c.requires _ _ _ c.in-Day.is)

pub overflow_cast-result-in-Day : goal.overflow_cast-result-in-Day
overflow_cast-result-in-Day c =
    omega (arith, day-small c.args.self c.requires _ _ _ c.in-Day.is c.if-day-eq2.true)
