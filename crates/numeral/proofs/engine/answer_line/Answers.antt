use Rattle.numeral.proofs.State.{Replies-put}
use Rattle.numeral.proofs.engine.answer_line.Goals as goal

pub returns : goal.returns
returns g c =
    Replies-put (Unit {0}) (Unit {0}) (g.W.Sink.state c.args.writer.now)
    (g.W.Sink.state c.write_answer.new.writer) c.args.line.now c.answer.result.now _
    c.answer.ensures.answers c.write_answer.ensures
