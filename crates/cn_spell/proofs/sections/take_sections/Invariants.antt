use Rattle.std.proofs.Common.{◌≡◌, ℕ, ◌*◌, ◌/◌, ◌%◌, ◌^◌, ◌<◌, ◌≤◌, length, slice_index}
use Rattle.cn_spell.proofs.sections.take_sections.Given as goal

abbrev pub invariant-loop-left : goal.invariant-loop-left
invariant-loop-left l = record {
  split : l.left ≡ l.magnitude / 10 ^ (4 * l.count);
  each : (index : ℕ) → index < l.count
      → slice_index l.sections index ≡ l.magnitude / 10 ^ (4 * index) % 10 ^ 4;
  some : 0 < l.count → 0 < l.left;
  few : l.count ≤ 9;
  size : length l.sections ≡ 9;
}

abbrev pub decreases-loop-left : goal.decreases-loop-left
decreases-loop-left l = l.left

abbrev pub invariant-loop-above : goal.invariant-loop-above
invariant-loop-above l = record {
  split : l.above ≡ l.magnitude / 10 ^ (4 * l.count);
  each : (index : ℕ) → index < l.count
      → slice_index l.sections index ≡ l.magnitude / 10 ^ (4 * index) % 10 ^ 4;
  some : 0 < l.count → 0 < l.above;
  few : l.count ≤ 9;
  size : length l.sections ≡ 9;
}

abbrev pub decreases-loop-above : goal.decreases-loop-above
decreases-loop-above l = l.above
