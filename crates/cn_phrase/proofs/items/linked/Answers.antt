use Rattle.std.proofs.Common.{rules}
use Rattle.cn_find.specs.Spans.{span_of}
use Rattle.cn_phrase.proofs.Between.{after-part, linked-none, linked-some}
use Rattle.cn_phrase.proofs.items.linked.Goals as goal

pub expression_at-requires : goal.expression_at-requires
expression_at-requires c = let passed = after-part c.args.whole.now (span_of c.args.low) _ _
    c.requires (search rules) (search rules) (search rules) (search rules)
    c.in_ok-link.ensures.parts in passed.ends

pub returns-in-Some : goal.returns-in-Some
returns-in-Some c = let passed = after-part c.args.whole.now (span_of c.args.low) _ _
    c.requires (search rules) (search rules) (search rules) (search rules)
    c.in_ok-link.ensures.parts in
    linked-some c.args.wanted (span_of c.args.low) _ _ _ _ c.in_ok-link.ensures.parts
    (search rules) passed.front _ _ c.in-Some.ensures.span c.in-Some.ensures.rest

pub returns-in-None : goal.returns-in-None
returns-in-None c = let passed = after-part c.args.whole.now (span_of c.args.low) _ _
    c.requires (search rules) (search rules) (search rules) (search rules)
    c.in_ok-link.ensures.parts in
    linked-none c.args.wanted (span_of c.args.low) _ _ _ _ c.in_ok-link.ensures.parts
    (search rules) passed.front c.in-None.ensures.rest
