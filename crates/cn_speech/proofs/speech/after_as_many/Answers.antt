use Rattle.std.proofs.Common.{◌∙◌, [], ap, arith, chars, drop, refl, rules, sym}
use Rattle.cn_find.specs.Spans.{in_front, text_before}
use Rattle.cn_find.proofs.Runs.{IsEnd-at, Passed-of, front-utf8}
use Rattle.cn_speech.proofs.AsMany.{AsManyMore, AsManyMore-of, as-many-end}
use Rattle.cn_speech.proofs.speech.after_as_many.Goals as goal

pub passing-init : goal.passing-init
passing-init c = record {
  ends = c.requires;
  same = refl;
  given = IsEnd-at _ [] _ refl;
  left_utf8 = search rules;
  next_utf8 = search rules;
}

pub passing-preserved : goal.passing-preserved
passing-preserved c =
    let more : AsManyMore c.passing.left.now c.args.rest.now c.in-Some.behind.now c.passing.next.now
    c.in-Some-split_first_char.others.now =
    AsManyMore-of _ _ _ _ _ _ _ c.passing.invariant.ends c.passing.invariant.left_utf8 (search rules)
    c.passing-test.true c.in-Some.ensures.parts c.in-Some-split_first_char.ensures.parts in
    let step = Passed-of c.args.given.now (text_before c.args.given.now c.passing.next.now)
    c.passing.next.now c.in-Some-split_first_char.others.now _ (sym c.passing.invariant.given)
    (front-utf8 _ _ c.passing.invariant.given c.utf8.given c.passing.invariant.next_utf8)
    c.passing.invariant.next_utf8 (search rules) c.in-Some-split_first_char.ensures.parts in
    record {
      ends = more.ends;
      same = sym more.same ∙ c.passing.invariant.same;
      given = step.ends;
      left_utf8 = search rules;
      next_utf8 = search rules;
    }

pub returns-clause-rest : goal.returns-clause-rest
returns-clause-rest c = sym (as-many-end c.passing.left.now c.args.rest.now c.passing.next.now
    c.passing.invariant.ends c.passing.invariant.left_utf8 c.utf8.rest c.passing-test.false)
    ∙ c.passing.invariant.same
