use Rattle.std.proofs.Common.{◌≡◌, ◌++◌, List, ℕ, length, false}
use Rattle.numeral.proofs.State.{State}
use Rattle.numeral.proofs.engine.answer_ended.Given as goal

abbrev pub invariant-lines : goal.invariant-lines
invariant-lines g l =
    (seen : List ℕ) × (l.fn.block ≡ seen ++ l.rest)
    × State (g.W.Sink.state l.fn.writer) (g.W.Sink.state l.writer)
    (l.fn.kept.items ++ seen) l.kept.items
    × ((g.W.Sink.state l.writer).failed ≡ false)

abbrev pub decreases-lines : goal.decreases-lines
decreases-lines g l = length l.rest
