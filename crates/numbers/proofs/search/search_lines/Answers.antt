use Rattle.std.proofs.Common.{ap, ◌∙◌}
use Rattle.std.proofs.lemmas.Option.{IfSome_then}
use Rattle.std.proofs.lemmas.Result.{err_from_is_err_and}
use Rattle.std.specs.Io.BufRead.{strip_last}
use Rattle.numbers.proofs.Lines.{Answered-none, Answered-kept, Answered-more, Leaves-at, Leaves-unsent, Leaves-within, Leaves-ended, Leaves-line}
use Rattle.numbers.proofs.search.search_lines.Goals as goal

pub loop-line-init : goal.loop-line-init
loop-line-init g c = Answered-none _ _ _

pub returns-in_err-flush_before_read-clause-leaves :
    goal.returns-in_err-flush_before_read-clause-leaves
returns-in_err-flush_before_read-clause-leaves g c =
    let p = err_from_is_err_and c.from_residual.result c.from_residual.ensures.1 in
    rw (p.1, p.2) (IfSome_then _ c.loop-line.invariant (λ input a.
    Leaves-unsent (Answered-kept a _ c.in_err-flush_before_read.ensures.kept) _
    c.in_err-flush_before_read.ensures.fault))

pub returns-in_err-read_line-clause-leaves : goal.returns-in_err-read_line-clause-leaves
returns-in_err-read_line-clause-leaves g c =
    let r = c.from_residual-in_err-read_line in
    let p = err_from_is_err_and r.result r.ensures.1 in
    rw (p.1, p.2) (IfSome_then _ c.loop-line.invariant (λ input a.
    Leaves-within (Answered-kept a _ c.in_ok-flush_before_read.ensures.kept) _ _
    c.in_err-read_line.ensures.within c.in_err-read_line.ensures.fault))

pub returns-then-not-branch-clause-leaves : goal.returns-then-not-branch-clause-leaves
returns-then-not-branch-clause-leaves g c =
    let takes = rw c.if-not-branch.true at c.in_ok-read_line.ensures.line in
    IfSome_then _ c.loop-line.invariant (λ input a.
    Leaves-ended (Answered-kept (Answered-kept a _ c.in_ok-flush_before_read.ensures.kept) _
    c.flush.ensures.kept) c.flush.result _ takes c.flush.ensures.fault)

pub returns-in_err-answer_line-clause-leaves : goal.returns-in_err-answer_line-clause-leaves
returns-in_err-answer_line-clause-leaves g c =
    let r = c.from_residual-in_err-answer_line in
    let p = err_from_is_err_and r.result r.ensures.1 in
    let takes = rw c.if-not-branch.false at c.in_ok-read_line.ensures.line in
    rw (p.1, p.2) (IfSome_then _ c.loop-line.invariant (λ input a.
    Leaves-line (Answered-kept a _ c.in_ok-flush_before_read.ensures.kept) _ _ _ _ _ takes
    c.in_ok-read_line.ensures.within
    (c.without_feed-text.ensures ∙ ap (strip_last 10) c.as_slice.ensures.value)
    c.in_err-answer_line.ensures))

pub loop-line-preserved : goal.loop-line-preserved
loop-line-preserved g c =
    let takes = rw c.if-not-branch.false at c.in_ok-read_line.ensures.line in
    IfSome_then _ c.loop-line.invariant (λ input a.
    Answered-more (Answered-kept a _ c.in_ok-flush_before_read.ensures.kept) _ _ _ _ _ takes
    (c.without_feed-text.ensures ∙ ap (strip_last 10) c.as_slice.ensures.value)
    c.in_ok-answer_line.ensures)

pub returns-clause-leaves : goal.returns-clause-leaves
returns-clause-leaves g c = IfSome_then _ c.loop-line.invariant (λ input a. Leaves-at a)
