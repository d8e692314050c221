use Rattle.std.proofs.Common.{Ok, Err, rules}
use Rattle.cheque.proofs.Replies.{gives_answer, gives_refusal, gives_nothing}
use Rattle.cheque.proofs.reply.write_capitals.Goals as goal

pub returns-in-Err : goal.returns-in-Err
returns-in-Err g c =
    gives_refusal _ _ _ _ _ _ (Err c.in-Err.error, c.in-Err.ensures, search rules) c.refuse.ensures

pub returns-in-Ok-amount_to_chinese_as : goal.returns-in-Ok-amount_to_chinese_as
returns-in-Ok-amount_to_chinese_as g c =
    let written = rw c.form_of.ensures at c.in-Ok-amount_to_chinese_as.ensures.bytes in
    gives_answer _ _ _ _ _ _ (Ok c.in-Ok.fen, c.in-Ok.ensures, search rules) c.show.ensures

pub returns-in-Err-OutOfMemory : goal.returns-in-Err-OutOfMemory
returns-in-Err-OutOfMemory g c =
    gives_nothing _ _ _ (Ok c.in-Ok.fen, c.in-Ok.ensures, search rules)
