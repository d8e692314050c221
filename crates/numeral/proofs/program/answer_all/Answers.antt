use Rattle.std.proofs.KnownBytes.{Keeps-refl}
use Rattle.std.specs.Io.KnownBytes.{Keeps}
use Rattle.numeral.proofs.State.{Runs-beginning}
use Rattle.numeral.proofs.program.answer_all.Goals.{then-not-has_failed, else-not-has_failed}
use Rattle.numeral.proofs.program.answer_all.Goals as goal

pub returns-clause-beginning : goal.returns-clause-beginning
returns-clause-beginning g c =
    let ran = g.W.Sink.state c.run-outcome.new.writer in
    let flushed = g.W.Sink.state c.if-not-has_failed.writer in
    let kept : Keeps ran.contents flushed.contents =
    elim c.if-not-has_failed.branch [
      | then-not-has_failed w ↦ rw w.writer-is w.flush.ensures.bytes
      | else-not-has_failed w ↦ rw w.writer-is (Keeps-refl _)
    ] in
    Runs-beginning (g.R.Source.state c.args.reader.now) (g.R.Source.state c.run-outcome.new.reader)
    (g.W.Sink.state c.args.writer.now) ran flushed c.run-outcome.result
    c.run-outcome.ensures.leaves kept
