use Rattle.std.proofs.Common.{◌≡◌, rules, arith, Some, None, chars}
use Rattle.cn_find.specs.Spans.{in_front, text_before}
use Rattle.cn_find.proofs.Runs.{front-utf8, part-of}
use Rattle.cn_phrase.specs.Items.{item_rest}
use Rattle.cn_phrase.proofs.ItemsFound.{IsNext-found, Skipping-more, rest-ends}
use Rattle.cn_phrase.proofs.items.next_item.Goals as goal

pub text_before-requires-in-Some-item_rest : goal.text_before-requires-in-Some-item_rest
text_before-requires-in-Some-item_rest c =
    let e : item_rest c.args.wanted (in_front (text_before c.args.whole.now c.searching.ahead.now))
    (chars c.searching.ahead.now) ≡ Some (chars c.in-Some-item_rest.after.now) = search rules in
    rest-ends c.args.wanted _ _ _ c.searching.invariant.utf8 (search rules) e

pub returns-in-Some-item_rest-clause-parts : goal.returns-in-Some-item_rest-clause-parts
returns-in-Some-item_rest-clause-parts c =
    let e : item_rest c.args.wanted (in_front (text_before c.args.whole.now c.searching.ahead.now))
    (chars c.searching.ahead.now) ≡ Some (chars c.in-Some-item_rest.after.now) = search rules in
    let next = IsNext-found c.args.wanted _ _ _ _ _ _ c.searching.invariant.skipped
    c.text_before.ensures c.text_before.utf8 c.searching.invariant.utf8 (search rules)
    c.text_before-in-Some-item_rest.ensures c.text_before-in-Some-item_rest.utf8 e in next.parts

pub returns-in-Some-item_rest-clause-ends : goal.returns-in-Some-item_rest-clause-ends
returns-in-Some-item_rest-clause-ends c =
    let e : item_rest c.args.wanted (in_front (text_before c.args.whole.now c.searching.ahead.now))
    (chars c.searching.ahead.now) ≡ Some (chars c.in-Some-item_rest.after.now) = search rules in
    let next = IsNext-found c.args.wanted _ _ _ _ _ _ c.searching.invariant.skipped
    c.text_before.ensures c.text_before.utf8 c.searching.invariant.utf8 (search rules)
    c.text_before-in-Some-item_rest.ensures c.text_before-in-Some-item_rest.utf8 e in next.ends

pub returns-in-Some-item_rest-clause-part : goal.returns-in-Some-item_rest-clause-part
returns-in-Some-item_rest-clause-part c =
    let e : item_rest c.args.wanted (in_front (text_before c.args.whole.now c.searching.ahead.now))
    (chars c.searching.ahead.now) ≡ Some (chars c.in-Some-item_rest.after.now) = search rules in
    part-of _ _ _ _ _ _ c.searching.invariant.skipped.ends
    (rest-ends c.args.wanted _ _ _ c.searching.invariant.utf8 (search rules) e)
    c.text_before.ensures c.text_before-in-Some-item_rest.ensures c.searching.invariant.within

pub searching-preserved : goal.searching-preserved
searching-preserved c =
    let skipped = c.searching.invariant.skipped in
    let none : item_rest c.args.wanted (in_front (text_before c.args.whole.now c.searching.ahead.now))
    (chars c.searching.ahead.now) ≡ None = search rules in
    record {
      skipped = Skipping-more _ _ _ _ _ _ skipped
          (front-utf8 _ _ skipped.ends c.utf8.whole c.searching.invariant.utf8)
          c.searching.invariant.utf8 (search rules) c.in-Some.ensures.parts none;
      utf8 = search rules;
      within = omega (arith, c.in-Some.ensures.shorter, c.searching.invariant.within);
    }
