use Rattle.std.proofs.Common.{◌/◌, ◌%◌, ◌∷◌, map, encode_utf8_all, sym, ap, subst, ◌∙◌, arith}
use Rattle.cn_quantity_text.specs.Digits.{last_digits}
use Rattle.cn_core.specs.Buffers.{Prepends}
use Rattle.cn_quantity_text.proofs.Points.{one-less, one-more, room-left, room-taken, no-digits}
use Rattle.cn_core.proofs.EndBuffers.{Prepends-none, Prepends-character}
use Rattle.cn_quantity_text.proofs.digits.put_last_digits.Goals as goal

pub loop-init : goal.loop-init
loop-init g c = record {
  split = no-digits c.args.number;
  room = omega arith;
  put = Prepends-none c.args.text.now;
}

pub put_char-requires : goal.put_char-requires
put_char-requires g c =
    let left = room-left g.H.Hand.most c.args.count c.loop.counter c.args.text.now.free
    c.loop.text.free c.requires c.loop-test.true c.loop.invariant.room in
    omega (arith, left, c.digit.ensures.bytes)

pub loop-preserved : goal.loop-preserved
loop-preserved g c =
    let l = c.loop in
    let number = c.args.number in
    let character = g.H.Hand.character c.args.hand.now in
    let is = c.digit.ensures.character
    ∙ ap (λ left. character (left % 10)) l.invariant.split in
    let put = Prepends-character c.args.text.now l.text c.put_char.new.self _ _ l.invariant.put
    c.put_char.ensures in
    record {
      split = ap (λ n. n / 10) l.invariant.split ∙ one-less number l.counter;
      room = room-taken g.H.Hand.most l.counter c.args.text.now.free l.text.free
          c.put_char.new.self.free _ l.invariant.room c.digit.ensures.bytes c.put_char.ensures.free;
      put = subst (λ text. Prepends c.args.text.now c.put_char.new.self (encode_utf8_all text))
          (ap (λ one. one ∷ map character (last_digits l.counter number)) is
          ∙ ap (map character) (sym (one-more number l.counter))) put;
    }
