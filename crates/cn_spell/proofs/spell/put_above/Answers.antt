use Rattle.std.proofs.Common.{◌≡◌, ◌+◌, ◌%◌, suc, length, nat_lt, refl, ap, ◌∙◌, arith, length-append, append_assoc}
use Rattle.cn_core.specs.declared.method.ChineseCountMethod.TheVariants.{Low}
use Rattle.cn_spell.specs.Working.Sections.{digit_marks, top_marks}
use Rattle.cn_spell.proofs.Single.{so_far}
use Rattle.cn_spell.proofs.SingleTops.{next-power, step-power, room-power, spelled-last}
use Rattle.cn_spell.proofs.spell.put_above.Goals as goal

pub put_digit-requires-clause-room : goal.put_digit-requires-clause-room
put_digit-requires-clause-room g c =
    let l = c.loop-left in
    let room = room-power c.args.number l.power l.left (l.left % 10) l.below c.requires.number
    l.invariant.split (omega arith) refl l.invariant.below in
    omega (arith, room, l.invariant.room, c.requires.room)

pub loop-left-preserved : goal.loop-left-preserved
loop-left-preserved g c =
    let l = c.loop-left in
    let number = c.args.number in
    let one : l.power + 1 ≡ suc l.power = omega arith in
    let next = next-power number l.power l.left c.requires.number l.invariant.split (omega arith) in
    let step = step-power number l.power l.left (l.left % 10) l.below c.requires.number
    l.invariant.split (omega arith) refl l.invariant.below in
    let marks = digit_marks l.power (l.left % 10) (nat_lt 0 l.below) in
    record {
      split = rw one next.2;
      reach = λ h. rw one next.0;
      within = omega (arith, next.1);
      below = rw one (ap (λ n. n % 10) l.invariant.split);
      digit = omega arith;
      room = omega (
        arith,
        ap length step,
        length-append marks (so_far Low number l.power),
        c.put_digit.ensures.room,
        l.invariant.room,
      );
      setting = c.put_digit.ensures.setting ∙ l.invariant.setting;
      marks = λ rest h. rw (
        step,
        append_assoc marks (so_far Low number l.power)
            rest,
      ) (c.put_digit.ensures.marks _ (l.invariant.marks rest h));
    }

pub put_top-requires-clause-room : goal.put_top-requires-clause-room
put_top-requires-clause-room g c =
    let l = c.loop-left in
    let spelled = ap length (spelled-last c.args.number l.power l.left
    l.invariant.within l.invariant.split (omega arith) l.invariant.reach) in
    omega (
      arith,
      spelled,
      length-append (top_marks l.power l.left)
          (so_far Low c.args.number l.power),
      l.invariant.room,
      c.requires.room,
    )

pub returns-clause-room : goal.returns-clause-room
returns-clause-room g c =
    let l = c.loop-left in
    let spelled = ap length (spelled-last c.args.number l.power l.left
    l.invariant.within l.invariant.split (omega arith) l.invariant.reach) in
    omega (
      arith,
      spelled,
      length-append (top_marks l.power l.left)
          (so_far Low c.args.number l.power),
      l.invariant.room,
      c.put_top.ensures.room,
    )

pub returns-clause-marks : goal.returns-clause-marks
returns-clause-marks g c =
    let l = c.loop-left in
    let spelled = spelled-last c.args.number l.power l.left l.invariant.within l.invariant.split
    (omega arith) l.invariant.reach in
    λ rest h. rw (
      spelled,
      append_assoc (top_marks l.power l.left)
          (so_far Low c.args.number l.power) rest,
    ) (c.put_top.ensures.marks _
    (l.invariant.marks rest h))
