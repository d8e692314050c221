use Rattle.std.proofs.Common.{◌≡◌, ◌≤◌, ◌+◌, ◌-◌, length, drop, eqb}
use Rattle.std.specs.List.{position_or_len}
use Rattle.cn_lines.proofs.lines.far_position.Given as goal

abbrev pub invariant-strides : goal.invariant-strides
invariant-strides l =
    (l.start ≤ length l.bytes)
    × (position_or_len (λ b. eqb b l.byte) l.bytes
    ≡ l.start + position_or_len (λ b. eqb b l.byte) (drop l.start l.bytes))

abbrev pub decreases-strides : goal.decreases-strides
decreases-strides l = length l.bytes - l.start
