use Rattle.std.proofs.Common.{get_or, length, ◌<◌, ◌≤◌, ◌-◌, ℕ}
use Rattle.cn_dynamic.proofs.utf8.ascii_eights_len.Given as goal

abbrev pub invariant-sixteens : goal.invariant-sixteens
invariant-sixteens l = (l.len ≤ length l.bytes) × ((k : ℕ) → k < l.len → get_or l.bytes k 0 < 128)

abbrev pub decreases-sixteens : goal.decreases-sixteens
decreases-sixteens l = length l.bytes - l.len
