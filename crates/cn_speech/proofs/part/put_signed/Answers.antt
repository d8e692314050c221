use Rattle.std.proofs.Common.{◌∙◌, List, ℕ, OnOk, rules, ap, chars, drop, encode_utf8_all, subst, sym}
use Rattle.std.proofs.lemmas.Result.{on_ok_weaker}
use Rattle.cn_find.specs.Spans.{in_front, text_before}
use Rattle.cn_find.proofs.Runs.{Passed-of, front-utf8}
use Rattle.cn_speech.specs.SpokenParts.{IsWithin, said_of, utterance_of}
use Rattle.cn_speech.proofs.Said.{said-both}
use Rattle.cn_speech.proofs.SignedParts.{signed-text-is}
use Rattle.cn_speech.proofs.part.put_signed.Goals as goal

pub text_before-requires : goal.text_before-requires
text_before-requires g c = let step = Passed-of c.args.whole.now
    (text_before c.args.whole.now c.args.ahead.now) c.args.ahead.now c.in-Some.text.now _
    (sym c.requires.ends) (front-utf8 _ _ c.requires.ends c.utf8.whole c.utf8.ahead) c.utf8.ahead
    (search rules) c.in-Some.ensures.parts in step.ends

pub put_utterance-requires : goal.put_utterance-requires
put_utterance-requires g c = subst (λ l. IsWithin (drop 1 l) (said_of c.args.utterance.said))
    c.in-Some.ensures.parts c.requires.within

pub returns : goal.returns
returns g c =
    let step = Passed-of c.args.whole.now
    (text_before c.args.whole.now c.args.ahead.now) c.args.ahead.now c.in-Some.text.now _
    (sym c.requires.ends) (front-utf8 _ _ c.requires.ends c.utf8.whole c.utf8.ahead) c.utf8.ahead
    (search rules) c.in-Some.ensures.parts in
    subst (λ l. OnOk c.put_utterance.result (g.S.Sink.took c.args.sink.now c.put_utterance.new.sink
    (encode_utf8_all l)))
    (signed-text-is c.args.voice (in_front (text_before c.args.whole.now c.args.ahead.now))
    (chars c.args.ahead.now) (chars c.in-Some.text.now) (in_front c.text_before.result.now)
    (chars c.args.sign.now) (utterance_of c.args.utterance) _ c.in-Some.ensures.parts
    (ap in_front c.text_before.ensures ∙ step.front))
    (on_ok_weaker c.put_utterance.result
    (λ last. said-both g.S.Sink.took g.met.S.Sink.took_both _ _ _ _ _ c.in_ok-put_word.ensures last)
    c.put_utterance.ensures)
