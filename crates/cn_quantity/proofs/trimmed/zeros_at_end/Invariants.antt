use Rattle.std.proofs.Common.{◌≡◌, ◌+◌, ◌-◌}
use Rattle.cn_quantity.specs.Trimmed.{zeros_at_end}
use Rattle.cn_quantity.proofs.trimmed.zeros_at_end.Given as goal

abbrev pub invariant-loop-zeros : goal.invariant-loop-zeros
invariant-loop-zeros l =
    zeros_at_end l.count l.number ≡ l.zeros + zeros_at_end (l.count - l.zeros) l.left
