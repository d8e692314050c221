use Rattle.cheque.proofs.DateFiguresRead.{are-below}
use Rattle.cheque.proofs.dates.StateGrammar.step.Goals as goal

pub after_digit-requires-clause-below : goal.after_digit-requires-clause-below
after_digit-requires-clause-below c = are-below c.args.self c.requires
