use Rattle.std.specs.Io.Buffered.{reader_remaining, writer_contents}
use Rattle.std.specs.Prelude.{IfSome}
use Rattle.numbers.proofs.Lines.{Answered}
use Rattle.numbers.proofs.search.search_lines.Given as goal

abbrev pub invariant-loop-line : goal.invariant-loop-line
invariant-loop-line g l =
    let left = reader_remaining g.R.Read.remaining in
    let contents = writer_contents g.W.Write.contents in
    IfSome (left l.fn.reader) (λ input.
    Answered l.search l.line input (left l.reader) (contents l.fn.writer) (contents l.writer))
