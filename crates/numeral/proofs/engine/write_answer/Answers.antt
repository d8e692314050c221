use Rattle.std.proofs.Common.{◌∷◌, [], Ok, Err, subst}
use Rattle.std.proofs.lemmas.Result.{err_from_is_err_and}
use Rattle.numeral.specs.Steps.{Puts}
use Rattle.numeral.proofs.Replying.{Puts-first, Puts-second}
use Rattle.numeral.proofs.engine.write_answer.Goals as goal

pub returns-in_err-write_all : goal.returns-in_err-write_all
returns-in_err-write_all g c =
    let old = g.W.Sink.state c.args.writer.now in
    let new = g.W.Sink.state c.write_all.new.writer in
    let p = err_from_is_err_and c.from_residual.result c.from_residual.ensures.1 in
    let put = subst (λ bytes. Puts {T = Unit {0}} old new bytes (Err c.in_err-write_all.field-0.0))
    c.as_bytes.ensures.value c.in_err-write_all.ensures in
    rw (p.1, p.2) (Puts-first (Unit {0}) (Unit {0}) old new c.args.answer.now (10 ∷ []) _ put)

pub returns : goal.returns
returns g c =
    let old = g.W.Sink.state c.args.writer.now in
    let now = g.W.Sink.state c.write_all.new.writer in
    let put = subst (λ bytes. Puts {T = Unit {0}} old now bytes (Ok c.in_ok-write_all.field-0))
    c.as_bytes.ensures.value c.in_ok-write_all.ensures in
    Puts-second (Unit {0}) old now (g.W.Sink.state c.write_all-2.new.writer) c.args.answer.now
    (10 ∷ []) c.write_all-2.result put.0 c.write_all-2.ensures
