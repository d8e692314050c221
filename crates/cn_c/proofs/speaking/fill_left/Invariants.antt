use Rattle.std.proofs.Common.{◌≡◌, ◌≤◌, ◌-◌, ◌++◌, map, take, drop, length}
use Rattle.cn_speech.specs.Places.{IsPlace, left_at}
use Rattle.cn_c.specs.Finds.{span_told}
use Rattle.cn_c.specs.Speaking.{doubt_in_text}
use Rattle.cn_c.proofs.speaking.fill_left.Given as goal

abbrev pub invariant-filling : goal.invariant-filling
invariant-filling l = record {
  within : l.count ≤ length (left_at l.wanted l.text l.meant l.place);
  room : l.count ≤ length l.fn.spans;
  at : IsPlace l.text l.meant l.next;
  left : left_at l.wanted l.text l.meant l.next
      ≡ drop l.count (left_at l.wanted l.text l.meant l.place);
  told : l.spans ≡ map (span_told doubt_in_text) (take l.count (left_at l.wanted l.text l.meant l.place))
      ++ drop l.count l.fn.spans;
}

abbrev pub decreases-filling : goal.decreases-filling
decreases-filling l = length l.fn.spans - l.count
