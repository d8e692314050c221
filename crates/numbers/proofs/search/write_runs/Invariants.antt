use Rattle.std.proofs.Common.{◌≡◌, ℕ, ◌+◌, length}
use denote.Text.{Utf8}
use denote.Shadow.{shadow}
use Rattle.chinese_number.specs.Rule.{Rule}
use Rattle.numbers.proofs.Found.{Left, Passed}
use Rattle.numbers.proofs.search.write_runs.Given as goal

abbrev pub invariant-searching : goal.invariant-searching
invariant-searching g l = record {
  passed : Passed l.search l.line (g.W.Write.contents l.fn.writer) (g.W.Write.contents l.writer) l.fn.runs l.runs;
  left : (rule : Rule) × (count : ℕ) × (l.column ≡ 1 + count) × Left rule l.runs l.rest count;
  utf8 : shadow (Utf8 l.rest);
}

abbrev pub decreases-searching : goal.decreases-searching
decreases-searching g l = length l.runs
