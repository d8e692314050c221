use Rattle.std.proofs.Common.{◌∙◌}
use Rattle.cn_phrase.proofs.SumsFound.{passed-is, signed-none, signed-some}
use Rattle.cn_phrase.proofs.WholePhrases.{ends-again, fronts-are}
use Rattle.cn_phrase.proofs.items.signed_from.Goals as goal

pub expression_at-requires : goal.expression_at-requires
expression_at-requires c = ends-again c.args.whole.now c.args.ahead.now c.args.start.now
    c.requires.ahead c.requires.start

pub returns-in-Some : goal.returns-in-Some
returns-in-Some c = c.signed.ensures ∙ signed-some c.args.wanted _ _ _ _ _
    (fronts-are c.args.whole.now c.args.ahead.now c.args.start.now c.requires.ahead c.requires.start
    c.utf8.whole c.utf8.ahead c.utf8.start)
    (c.text_before.ensures
    ∙ passed-is c.args.ahead.now c.args.start.now c.requires.start c.utf8.ahead c.utf8.start)
    _ _ c.in-Some.ensures.span c.in-Some.ensures.rest

pub returns-in-None : goal.returns-in-None
returns-in-None c = signed-none c.args.wanted _ _ _ _ _
    (fronts-are c.args.whole.now c.args.ahead.now c.args.start.now c.requires.ahead c.requires.start
    c.utf8.whole c.utf8.ahead c.utf8.start)
    (passed-is c.args.ahead.now c.args.start.now c.requires.start c.utf8.ahead c.utf8.start)
    c.in-None.ensures.rest
