use Rattle.std.proofs.Common.{◌-◌, length}
use Rattle.cn_judge.proofs.Passing.{Passed}
use Rattle.cn_judge.proofs.text.count_chars.Given as goal

abbrev pub invariant-words : goal.invariant-words
invariant-words l = record { passed : Passed l.fn.text l.count l.passed }

abbrev pub decreases-words : goal.decreases-words
decreases-words l = length l.fn.text - l.passed

abbrev pub invariant-counting : goal.invariant-counting
invariant-counting l = record { passed : Passed l.fn.text l.count l.passed }

abbrev pub decreases-counting : goal.decreases-counting
decreases-counting l = length l.fn.text - l.passed
