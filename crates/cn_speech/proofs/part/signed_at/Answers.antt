use Rattle.std.proofs.Common.{◌∙◌, ap, chars, rules, sym}
use Rattle.cn_find.specs.Spans.{in_front, text_before}
use Rattle.cn_find.proofs.Runs.{Passed-of, front-utf8}
use Rattle.cn_speech.specs.SpokenParts.{with_sign}
use Rattle.cn_speech.proofs.SignedParts.{signed-name, signed-none, signed-some}
use Rattle.cn_speech.proofs.part.signed_at.Goals as goal

pub number_at-requires : goal.number_at-requires
number_at-requires c = let step = Passed-of c.args.whole.now
    (text_before c.args.whole.now c.args.ahead.now) c.args.ahead.now c.in_ok-c.number.now _
    (sym c.requires) (front-utf8 _ _ c.requires c.utf8.whole c.utf8.ahead) c.utf8.ahead
    (search rules) c.in_ok-c.ensures.parts in step.ends

pub currency_at-requires : goal.currency_at-requires
currency_at-requires c = let step = Passed-of c.args.whole.now
    (text_before c.args.whole.now c.args.ahead.now) c.args.ahead.now c.in_ok-c.number.now _
    (sym c.requires) (front-utf8 _ _ c.requires c.utf8.whole c.utf8.ahead) c.utf8.ahead
    (search rules) c.in_ok-c.ensures.parts in step.ends

pub returns-in-Some : goal.returns-in-Some
returns-in-Some c =
    let step = Passed-of c.args.whole.now
    (text_before c.args.whole.now c.args.ahead.now) c.args.ahead.now c.in_ok-c.number.now _
    (sym c.requires) (front-utf8 _ _ c.requires c.utf8.whole c.utf8.ahead) c.utf8.ahead
    (search rules) c.in_ok-c.ensures.parts in
    c.with_sign.ensures ∙ ap (with_sign (chars c.in-Some.sign.now)) c.number_at.ensures
    ∙ signed-some c.args.wanted (in_front (text_before c.args.whole.now c.args.ahead.now))
    (chars c.args.ahead.now) (chars c.in_ok-c.number.now)
    (in_front (text_before c.args.whole.now c.in_ok-c.number.now)) c.in_ok-c.c
    c.in_ok-c.ensures.parts step.front (chars c.in-Some.sign.now) c.in-Some.ensures

pub returns-in-Some-currency_name : goal.returns-in-Some-currency_name
returns-in-Some-currency_name c =
    let step = Passed-of c.args.whole.now
    (text_before c.args.whole.now c.args.ahead.now) c.args.ahead.now c.in_ok-c.number.now _
    (sym c.requires) (front-utf8 _ _ c.requires c.utf8.whole c.utf8.ahead) c.utf8.ahead
    (search rules) c.in_ok-c.ensures.parts in
    c.currency_at.ensures
    ∙ signed-name c.args.wanted (in_front (text_before c.args.whole.now c.args.ahead.now))
    (chars c.args.ahead.now) (chars c.in_ok-c.number.now)
    (in_front (text_before c.args.whole.now c.in_ok-c.number.now)) c.in_ok-c.c
    c.in_ok-c.ensures.parts step.front (chars c.in-Some-currency_name.name.now) (search rules)
    c.in-Some-currency_name.ensures
