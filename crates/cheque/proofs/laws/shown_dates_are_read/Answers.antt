use Rattle.std.proofs.Common.{arith}
use Rattle.std.proofs.lemmas.Bool.Decides.{nat_tests}
use Rattle.cheque.proofs.Shown.{dates}
use Rattle.cheque.proofs.laws.shown_dates_are_read.Goals as goal

pub returns : goal.returns
returns c date h = dates date h.1 (omega (arith, h.3)) (grind (arith, nat_tests, h.5))
