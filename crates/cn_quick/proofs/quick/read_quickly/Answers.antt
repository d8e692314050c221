use Rattle.std.proofs.Common.{◌≡◌, ◌-◌, length, arith, rules}
use Rattle.cn_core.specs.Text.{marks_of}
use Rattle.cn_judge.specs.Marked.{marked}
use Rattle.cn_quick.proofs.RegularSteps.{stepped-all, stepped-more, stepped-second}
use Rattle.cn_quick.proofs.quick.read_quickly.Goals as goal

pub returns : goal.returns
returns c =
    let s = c.walking.invariant.stepped in
    let parts = c.in_ok-first.ensures.parts in
    let none : length c.in_ok-first.field-0-1.now ≡ 0 = search rules in
    stepped-all c.args.method _ _ _ _ _ parts.0 (marked c.in_ok-first.first) _ s parts.1 parts.2
    parts.3 none (c.finish.ensures c.args.method (marks_of s.after) s.stands)

pub walking-preserved : goal.walking-preserved
walking-preserved c =
    let s = c.walking.invariant.stepped in
    let parts = c.in_ok-mark.ensures.parts in
    let long = c.if-text-lt3.false in
    let second = stepped-second c.args.method _ _ _ _ (length c.args.text.now - 3) s
    (omega (arith, long)) in
    record {
      stepped = stepped-more c.args.method _ _ _ _ _ _ _ parts.0 (marked c.in_ok-mark.mark) s
          parts.1 parts.2 parts.3 c.in_ok-mark.ensures.shorter
          (c.in_ok-state.ensures (marks_of s.after) s.stands second);
      utf8 = search rules;
    }
