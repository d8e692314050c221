use Rattle.std.proofs.Common.{◌≡◌, rules, arith, Some, None, chars}
use Rattle.cn_find.specs.Spans.{in_front, text_before}
use Rattle.cn_find.proofs.Runs.{front-utf8, part-of}
use Rattle.cn_codes.specs.CodesInText.{rest_here}
use Rattle.cn_codes.proofs.HereLeaves.{here-leaves}
use Rattle.cn_codes.proofs.PartsFound.{IsNext-found, Skipping-more, rest-ends}
use Rattle.cn_codes.proofs.with_codes.next_part.Goals as goal

pub text_before-requires-in-Some-rest_here : goal.text_before-requires-in-Some-rest_here
text_before-requires-in-Some-rest_here c =
    let e : rest_here c.args.wanted (in_front (text_before c.args.whole.now c.searching.ahead.now))
    (chars c.searching.ahead.now) ≡ Some (chars c.in-Some-rest_here.after.now) = search rules in
    rest-ends (rest_here c.args.wanted) (here-leaves c.args.wanted)
    (in_front (text_before c.args.whole.now c.searching.ahead.now)) _ _ c.searching.invariant.utf8 (search rules) e

pub returns-in-Some-rest_here-clause-parts : goal.returns-in-Some-rest_here-clause-parts
returns-in-Some-rest_here-clause-parts c =
    let e : rest_here c.args.wanted (in_front (text_before c.args.whole.now c.searching.ahead.now))
    (chars c.searching.ahead.now) ≡ Some (chars c.in-Some-rest_here.after.now) = search rules in
    let next = IsNext-found (rest_here c.args.wanted) (here-leaves c.args.wanted) _ _ _ _ _ _ c.searching.invariant.skipped
    c.text_before.ensures c.text_before.utf8 c.searching.invariant.utf8 (search rules)
    c.text_before-in-Some-rest_here.ensures c.text_before-in-Some-rest_here.utf8 e in next.parts

pub returns-in-Some-rest_here-clause-ends : goal.returns-in-Some-rest_here-clause-ends
returns-in-Some-rest_here-clause-ends c =
    let e : rest_here c.args.wanted (in_front (text_before c.args.whole.now c.searching.ahead.now))
    (chars c.searching.ahead.now) ≡ Some (chars c.in-Some-rest_here.after.now) = search rules in
    let next = IsNext-found (rest_here c.args.wanted) (here-leaves c.args.wanted) _ _ _ _ _ _ c.searching.invariant.skipped
    c.text_before.ensures c.text_before.utf8 c.searching.invariant.utf8 (search rules)
    c.text_before-in-Some-rest_here.ensures c.text_before-in-Some-rest_here.utf8 e in next.ends

pub returns-in-Some-rest_here-clause-part : goal.returns-in-Some-rest_here-clause-part
returns-in-Some-rest_here-clause-part c =
    let e : rest_here c.args.wanted (in_front (text_before c.args.whole.now c.searching.ahead.now))
    (chars c.searching.ahead.now) ≡ Some (chars c.in-Some-rest_here.after.now) = search rules in
    part-of _ _ _ _ _ _ c.searching.invariant.skipped.ends
    (rest-ends (rest_here c.args.wanted) (here-leaves c.args.wanted)
    (in_front (text_before c.args.whole.now c.searching.ahead.now)) _ _ c.searching.invariant.utf8 (search rules) e)
    c.text_before.ensures c.text_before-in-Some-rest_here.ensures c.searching.invariant.within

pub searching-preserved : goal.searching-preserved
searching-preserved c =
    let skipped = c.searching.invariant.skipped in
    let none : rest_here c.args.wanted (in_front (text_before c.args.whole.now c.searching.ahead.now))
    (chars c.searching.ahead.now) ≡ None = search rules in
    record {
      skipped = Skipping-more _ _ _ _ _ _ skipped
          (front-utf8 _ _ skipped.ends c.utf8.whole c.searching.invariant.utf8)
          c.searching.invariant.utf8 (search rules) c.in-Some.ensures.parts none;
      utf8 = search rules;
      within = omega (arith, c.in-Some.ensures.shorter, c.searching.invariant.within);
    }
