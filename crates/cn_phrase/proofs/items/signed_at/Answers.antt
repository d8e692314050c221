use Rattle.cn_phrase.proofs.SumsFound.{sign-ends}
use Rattle.cn_phrase.proofs.items.signed_at.Goals as goal

pub signed_from-requires-clause-start : goal.signed_from-requires-clause-start
signed_from-requires-clause-start c = sign-ends c.args.ahead.now c.in_ok-c.after.now
    c.without_blank.result.now c.in_ok-c.c c.utf8.ahead c.without_blank.utf8 c.in_ok-c.ensures.parts
    c.without_blank.ensures
