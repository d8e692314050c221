use Rattle.std.proofs.Common.{Ok, Err, rules}
use Rattle.cheque.proofs.Replies.{gives_answer, gives_refusal}
use Rattle.cheque.proofs.reply.write_figures.Goals as goal

pub returns-in-Ok : goal.returns-in-Ok
returns-in-Ok g c =
    gives_answer _ _ _ _ _ _ (Ok c.in-Ok.fen, c.in-Ok.ensures, search rules) c.show.ensures

pub returns-in-Err : goal.returns-in-Err
returns-in-Err g c =
    gives_refusal _ _ _ _ _ _ (Err c.in-Err.error, c.in-Err.ensures, search rules) c.refuse.ensures
