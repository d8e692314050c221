use Rattle.std.proofs.Common.{chars, true, false, refl, rules, sym, ap, ◌∙◌}
use Rattle.cn_find.specs.Spans.{in_front}
use Rattle.cn_phrase.specs.Phrases.{found_of, phrase_at}
use Rattle.cn_phrase.proofs.WholePhrases.{phrase-ends-whole, whole-is}
use Rattle.cn_phrase.proofs.items.whole_phrase.Goals as goal

pub ends_whole-requires : goal.ends_whole-requires
ends_whole-requires c = phrase-ends-whole c.args.wanted c.args.whole.now c.args.ahead.now
    (found_of c.in-Some.found) c.in-Some.found.rest.now refl c.requires c.utf8.whole c.utf8.ahead
    (search rules) (c.in-Some.ensures ∙ ap (λ l. phrase_at (in_front l) (chars c.args.ahead.now))
    c.text_before.ensures)

pub returns-then-ends_whole : goal.returns-then-ends_whole
returns-then-ends_whole c = whole-is c.args.wanted c.args.whole.now c.args.ahead.now
    (found_of c.in-Some.found) c.in-Some.found.rest.now refl c.requires c.utf8.whole c.utf8.ahead
    (search rules) (c.in-Some.ensures ∙ ap (λ l. phrase_at (in_front l) (chars c.args.ahead.now))
    c.text_before.ensures) true (sym c.if-ends_whole.true ∙ c.ends_whole.ensures)

pub returns-else-ends_whole : goal.returns-else-ends_whole
returns-else-ends_whole c = whole-is c.args.wanted c.args.whole.now c.args.ahead.now
    (found_of c.in-Some.found) c.in-Some.found.rest.now refl c.requires c.utf8.whole c.utf8.ahead
    (search rules) (c.in-Some.ensures ∙ ap (λ l. phrase_at (in_front l) (chars c.args.ahead.now))
    c.text_before.ensures) false (sym c.if-ends_whole.false ∙ c.ends_whole.ensures)
