use Rattle.examples.proofs.Chapters.{Passed}
use Rattle.examples.proofs.chapter.chapter_number.Given as goal

abbrev pub invariant-loop-found : goal.invariant-loop-found
invariant-loop-found l = Passed l.line l.found-iterator
