use Rattle.std.proofs.Common.{arith}
use Rattle.std.proofs.lemmas.Grind.{common_steps}
use Rattle.numeral.proofs.State.{Replies_last}
use Rattle.numeral.proofs.engine.answer_last.Goals as goal

pub returns-in_default-clause-replies : goal.returns-in_default-clause-replies
returns-in_default-clause-replies g c = grind (arith, common_steps, Replies_last)
