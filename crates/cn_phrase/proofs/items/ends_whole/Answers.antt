use Rattle.std.proofs.Common.{◌++◌, chars, rules, sym, ap, ◌∙◌}
use Rattle.std.proofs.lemmas.Str.{IsCharBoundary-at_seam}
use Rattle.cn_find.proofs.Runs.{IsEnd-at}
use Rattle.cn_phrase.proofs.Between.{before-rest, drop-parts, whole-none, whole-some}
use Rattle.cn_phrase.proofs.items.ends_whole.Goals as goal

pub split_at-requires : goal.split_at-requires
split_at-requires c =
    let here = before-rest c.args.whole.now c.text_before.result.now c.in-Some.front.now
    c.args.rest.now _ (ap (λ l. l ++ c.args.rest.now) c.text_before.ensures ∙ c.requires)
    c.text_before.utf8 (search rules) c.utf8.rest c.in-Some.ensures in
    IsCharBoundary-at_seam c.args.whole.now c.in-Some.front.now _ here.parts here.utf8

pub expression_after-requires : goal.expression_after-requires
expression_after-requires c =
    let here = before-rest c.args.whole.now c.text_before.result.now c.in-Some.front.now
    c.args.rest.now _ (ap (λ l. l ++ c.args.rest.now) c.text_before.ensures ∙ c.requires)
    c.text_before.utf8 (search rules) c.utf8.rest c.in-Some.ensures in
    IsEnd-at c.args.whole.now c.in-Some.front.now _ (here.parts ∙ ap (λ l. c.in-Some.front.now ++ l)
    (sym (c.split_at.ensures.back ∙ drop-parts c.args.whole.now c.in-Some.front.now _ here.parts)))

pub returns-in-Some-expression_after : goal.returns-in-Some-expression_after
returns-in-Some-expression_after c =
    let here = before-rest c.args.whole.now c.text_before.result.now c.in-Some.front.now
    c.args.rest.now _ (ap (λ l. l ++ c.args.rest.now) c.text_before.ensures ∙ c.requires)
    c.text_before.utf8 (search rules) c.utf8.rest c.in-Some.ensures in
    let last = c.split_at.ensures.back
    ∙ drop-parts c.args.whole.now c.in-Some.front.now _ here.parts in
    sym (whole-some c.args.wanted c.args.whole.now c.in-Some.front.now c.split_at.result.1.now
    c.args.rest.now _ _ (sym c.text_before.ensures) c.in-Some.ensures
    (here.parts ∙ ap (λ l. c.in-Some.front.now ++ l) (sym last)) (ap chars last ∙ here.chars_are)
    c.in-Some-expression_after.after.now c.utf8.rest (search rules)
    (sym c.in-Some-expression_after.ensures))

pub returns-in-None : goal.returns-in-None
returns-in-None c =
    let here = before-rest c.args.whole.now c.text_before.result.now c.in-Some.front.now
    c.args.rest.now _ (ap (λ l. l ++ c.args.rest.now) c.text_before.ensures ∙ c.requires)
    c.text_before.utf8 (search rules) c.utf8.rest c.in-Some.ensures in
    let last = c.split_at.ensures.back
    ∙ drop-parts c.args.whole.now c.in-Some.front.now _ here.parts in
    sym (whole-none c.args.wanted c.args.whole.now c.in-Some.front.now c.split_at.result.1.now
    c.args.rest.now _ _ (sym c.text_before.ensures) c.in-Some.ensures
    (here.parts ∙ ap (λ l. c.in-Some.front.now ++ l) (sym last)) (ap chars last ∙ here.chars_are)
    (sym c.in-None.ensures))
