use Rattle.std.proofs.Common.{◌-◌, ◌≤◌, length}
use Rattle.cn_judge.proofs.Passing.{Passed}
use Rattle.cn_judge.proofs.text.byte_index.Given as goal

abbrev pub invariant-words : goal.invariant-words
invariant-words l = record {
  passed : Passed l.fn.text (l.fn.char_index - l.left) l.passed;
  few : l.left ≤ l.fn.char_index;
}

abbrev pub decreases-words : goal.decreases-words
decreases-words l = length l.fn.text - l.passed

abbrev pub invariant-passing : goal.invariant-passing
invariant-passing l = record {
  passed : Passed l.fn.text (l.fn.char_index - l.left) l.passed;
  few : l.left ≤ l.fn.char_index;
}

abbrev pub decreases-passing : goal.decreases-passing
decreases-passing l = length l.fn.text - l.passed
