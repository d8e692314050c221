use Rattle.std.proofs.Common.{◌≡◌, ◌≤◌, ◌++◌, decimal, length}
use Rattle.cn_core.specs.Buffers.{text_at_end}
use Rattle.cn_quantity_text.proofs.write_figures.put_number.Given as goal

abbrev pub decreases-loop-left : goal.decreases-loop-left
decreases-loop-left l = l.left

abbrev pub invariant-loop-left : goal.invariant-loop-left
invariant-loop-left l = record {
  size : length l.text.bytes.now ≡ length l.fn.text.bytes.now;
  room : length (decimal l.left) ≤ l.text.free;
  text : decimal l.left ++ text_at_end l.text ≡ decimal l.fn.number ++ text_at_end l.fn.text;
}
