use Rattle.std.proofs.Common.{◌≡◌, ◌+◌, ◌*◌, ◌/◌, ◌^◌, suc, ap, ◌∙◌, arith}
use Rattle.std.proofs.Math.Nat.{div-div-eq-div-mul}
use Rattle.cn_spell.proofs.naive.put_digits.Goals as goal

pub loop-preserved : goal.loop-preserved
loop-preserved g c =
    let l = c.loop in
    let number = c.args.number in
    let one : l.counter + 1 ≡ suc l.counter = omega arith in
    let raised : 10 ^ l.counter * 10 ≡ 10 ^ suc l.counter = omega arith in
    let put = c.put_digit_if.ensures in
    record {
      split = rw one (ap (λ n. n / 10) l.invariant.split
          ∙ div-div-eq-div-mul number (10 ^ l.counter) 10 ∙ ap (λ n. number / n) raised);
      room = omega (arith, put.room, l.invariant.room);
      setting = put.setting ∙ l.invariant.setting;
      marks = λ marks h. rw (one, ← l.invariant.split) (put.marks _ (l.invariant.marks marks h));
    }
