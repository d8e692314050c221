use Rattle.std.proofs.Common.{◌≡◌, List, ℕ, false}
use Rattle.std.specs.Io.KnownBytes.{Consumes}
use Rattle.numeral.proofs.State.{State}
use Rattle.numeral.proofs.engine.run_by.Given as goal

abbrev pub invariant-reads : goal.invariant-reads
invariant-reads g l =
    (got : List ℕ) × Consumes (g.R.Source.state l.fn.reader).remaining
    (g.R.Source.state l.reader).remaining got
    × State (g.W.Sink.state l.fn.writer) (g.W.Sink.state l.writer) got l.kept.items
    × ((g.R.Source.state l.reader).failed ≡ false) × ((g.W.Sink.state l.writer).failed ≡ false)
    × ((g.R.Source.state l.reader).empty.count ≡ (g.R.Source.state l.fn.reader).empty.count)

abbrev pub decreases-reads : goal.decreases-reads
decreases-reads g l = g.R.Source.reads_left l.reader
