use Rattle.std.proofs.Common.{◌≡◌, ◌<◌, ◌++◌, [], length, take, ap, ◌∙◌, subst, append-nil, arith, rules, refl}
use Rattle.std.specs.Prelude.{OnErr}
use Rattle.std.proofs.lemmas.Result.{err_from_is_err_and}
use Rattle.std.specs.Io.KnownBytes.{Consumes}
use Rattle.std.proofs.KnownBytes.{Consumes-nil, Consumes-trans}
use Rattle.cn_lines.specs.Lines.{last_line}
use Rattle.numeral.specs.Steps.{Replies}
use Rattle.numeral.proofs.State.{State-start, State-flushed, State-no_feed, State-more, Leaves-fed, Leaves-finished}
use Rattle.numeral.proofs.engine.run_by.Goals as goal

pub reads-init : goal.reads-init
reads-init g c = (
  [],
  Consumes-nil _,
  rw c.new-kept.ensures.items (State-start _ [] tt),
  c.requires.reads,
  c.requires.writes,
  refl,
)

pub answer_ended-requires-clause-unended : goal.answer_ended-requires-clause-unended
answer_ended-requires-clause-unended g c =
    State-no_feed _ _ c.reads.invariant.0 _ c.reads.invariant.2

pub reads-preserved : goal.reads-preserved
reads-preserved g c =
    let i = c.reads.invariant in
    let given = (g.R.Source.state c.args.reader.now).remaining in
    let old = g.W.Sink.state c.args.writer.now in
    let now = g.W.Sink.state c.reads.writer in
    let read = g.W.Sink.state c.flush_and_read.new.writer in
    let new = g.W.Sink.state c.answer_ended.new.writer in
    let flushed = State-flushed old now read i.0 c.reads.kept.items i.2
    c.flush_and_read.ensures.kept in
    let w = c.in_ok-answer_ended.ensures in (
      i.0 ++ c.first_bytes.result.now,
      rw c.first_bytes.ensures (Consumes-trans given (g.R.Source.state c.reads.reader).remaining
          (g.R.Source.state c.flush_and_read.new.reader).remaining i.0 _ i.1
          c.in_ok-count.ensures.bytes.0),
      State-more old read new i.0 c.reads.kept.items c.first_bytes.result.now
          c.answer_ended.new.kept.items flushed w.0 w.1,
      c.in_ok-count.ensures.fails.0,
      w.2,
      search rules,
    )

pub returns-in_err-answer_ended-clause-leaves : goal.returns-in_err-answer_ended-clause-leaves
returns-in_err-answer_ended-clause-leaves g c =
    let i = c.reads.invariant in
    let given = (g.R.Source.state c.args.reader.now).remaining in
    let left = g.R.Source.state c.flush_and_read.new.reader in
    let old = g.W.Sink.state c.args.writer.now in
    let read = g.W.Sink.state c.flush_and_read.new.writer in
    let flushed = State-flushed old (g.W.Sink.state c.reads.writer) read i.0
    c.reads.kept.items i.2 c.flush_and_read.ensures.kept in
    let p = err_from_is_err_and c.from_residual-in_err-answer_ended.result
    c.from_residual-in_err-answer_ended.ensures.1 in (
      i.0 ++ c.first_bytes.result.now,
      rw c.first_bytes.ensures (Consumes-trans given (g.R.Source.state c.reads.reader).remaining
          left.remaining i.0 _ i.1 c.in_ok-count.ensures.bytes.0),
      rw (p.1, p.2)
          (Leaves-fed (Unit {0}) (Unit {0}) left old read
          (g.W.Sink.state c.answer_ended.new.writer) i.0 c.reads.kept.items
          c.first_bytes.result.now c.answer_ended.new.kept.items _ flushed
          c.in_ok-count.ensures.fails.0 c.in_err-answer_ended.ensures),
    )

pub returns-clause-leaves : goal.returns-clause-leaves
returns-clause-leaves g c =
    let i = c.reads.invariant in
    let given = (g.R.Source.state c.args.reader.now).remaining in
    let left = g.R.Source.state c.flush_and_read.new.reader in
    let old = g.W.Sink.state c.args.writer.now in
    let read = g.W.Sink.state c.flush_and_read.new.writer in
    let flushed = State-flushed old (g.W.Sink.state c.reads.writer) read i.0
    c.reads.kept.items i.2 c.flush_and_read.ensures.kept in
    let new = g.W.Sink.state c.answer_last.new.writer in
    let replies = subst (λ kept. Replies {T = Unit {0}} read new (last_line kept) c.answer_last.result)
    c.as_slice.ensures.value c.answer_last.ensures.replies in
    let some = subst (λ kept. OnErr c.answer_last.result (0 < length kept)) c.as_slice.ensures.value
    c.answer_last.ensures.some in
    let none : c.in_ok-count.count ≡ 0 = omega arith in
    let e : take c.in_ok-count.count c.flush_and_read.new.block ≡ [] =
    ap (λ n. take n c.flush_and_read.new.block) none in (
      i.0,
      subst (Consumes given left.remaining) (ap (λ l. i.0 ++ l) e ∙ append-nil i.0)
          (Consumes-trans given (g.R.Source.state c.reads.reader).remaining left.remaining i.0 _
          i.1 c.in_ok-count.ensures.bytes.0),
      Leaves-finished (Unit {0}) left old read new i.0 c.reads.kept.items c.answer_last.result
          flushed c.in_ok-count.ensures.fails.0 (c.in_ok-count.ensures.bytes.1 none (omega arith))
          replies some,
    )
