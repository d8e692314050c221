use Rattle.std.proofs.Common.{◌++◌, ◌∷◌, [], refl, append-nil, rules}
use Rattle.std.proofs.lemmas.Result.{err_from_is_err_and}
use Rattle.numeral.proofs.State.{State-start, State-seen, State-rest, AnswersEnded-line, AnswersEnded-piece, seen_line}
use Rattle.numeral.proofs.engine.answer_ended.Goals as goal

pub lines-init : goal.lines-init
lines-init g c = (
  [],
  refl,
  rw append-nil (State-start _ c.args.kept.now.items c.requires.unended),
  c.requires.works,
)

pub returns-in_err-answer_kept : goal.returns-in_err-answer_kept
returns-in_err-answer_kept g c =
    let p = err_from_is_err_and c.from_residual.result c.from_residual.ensures.1 in
    let i = c.lines.invariant in
    rw (p.1, p.2)
    (AnswersEnded-line c.args.kept.now.items c.args.block.now i.0 c.lines.rest.now i.1
    (Unit {0}) (Unit {0})
    (g.W.Sink.state c.args.writer.now) (g.W.Sink.state c.lines.writer)
    (g.W.Sink.state c.answer_kept.new.writer) _ c.in-Some.line.now c.in-Some.after.now
    c.answer_kept.new.kept.items _
    c.in-Some.ensures.parts i.2 c.in-Some.ensures.first c.in_err-answer_kept.ensures.replies)

pub lines-preserved : goal.lines-preserved
lines-preserved g c =
    let i = c.lines.invariant in
    let line = c.in-Some.line.now in (
      i.0 ++ (line ++ 10 ∷ []),
      seen_line c.args.kept.now.items c.args.block.now i.0 c.lines.rest.now i.1 line
          c.in-Some.after.now c.in-Some.ensures.parts,
      rw c.in_ok-answer_kept.ensures.kept
          (State-seen c.args.kept.now.items c.args.block.now i.0 c.lines.rest.now i.1 _ _ _
          _ line i.2 c.in-Some.ensures.first c.in_ok-answer_kept.ensures.replies.0),
      c.in_ok-answer_kept.ensures.replies.1,
    )

pub returns-in_err-extend_from_slice : goal.returns-in_err-extend_from_slice
returns-in_err-extend_from_slice g c =
    let p = err_from_is_err_and c.from_residual-in_err-extend_from_slice.result
    c.from_residual-in_err-extend_from_slice.ensures.1 in
    let i = c.lines.invariant in
    rw (p.1, p.2)
    (AnswersEnded-piece c.args.kept.now.items c.args.block.now i.0 c.lines.rest.now i.1
    (Unit {0}) _ _ _
    c.extend_from_slice.new.self.items i.2 (search rules) i.3)

pub returns-in_ok-extend_from_slice : goal.returns-in_ok-extend_from_slice
returns-in_ok-extend_from_slice g c =
    let i = c.lines.invariant in
    let s = State-rest c.args.kept.now.items c.args.block.now i.0 c.lines.rest.now i.1 _ _
    _ i.2 c.in_default.ensures.parts in
    (s.written, rw c.in_ok-extend_from_slice.ensures.items s.rest, i.3)
