use Rattle.std.proofs.Common.{◌≡◌, ◌+◌, ◌*◌, ◌/◌, ◌^◌, ◌≤◌, map, encode_utf8_all}
use Rattle.cn_quantity_text.specs.Digits.{last_digits}
use Rattle.cn_core.specs.Buffers.{Prepends}
use Rattle.cn_quantity_text.proofs.digits.put_last_digits.Given as goal

abbrev pub invariant-loop : goal.invariant-loop
invariant-loop g l = record {
  split : l.left ≡ l.number / 10 ^ l.counter;
  room : l.fn.text.free ≤ l.text.free + g.H.Hand.most * l.counter;
  put : Prepends l.fn.text l.text
      (encode_utf8_all (map (g.H.Hand.character l.hand) (last_digits l.counter l.number)));
}
