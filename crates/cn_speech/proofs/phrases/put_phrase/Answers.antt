use Rattle.std.proofs.Common.{◌≡◌, ℕ, List, [], ◌++◌, IfSome, Some, chars, encode_utf8_all, rules, subst, sym}
use Rattle.std.specs.Option.{option_map_or}
use Rattle.std.proofs.lemmas.Result.{on_ok_weaker}
use Rattle.cn_find.specs.Spans.{in_front}
use Rattle.cn_phrase.specs.Between.{characters_before}
use Rattle.cn_phrase.specs.Phrases.{after_lead, found_of}
use Rattle.cn_phrase.specs.Suffix.{EndsWith}
use Rattle.cn_phrase.proofs.Advances.{ahead-lead}
use Rattle.cn_speech.specs.SpokenPhrases.{form_said}
use Rattle.cn_speech.proofs.Said.{said-both}
use Rattle.cn_speech.proofs.phrases.put_phrase.Goals as goal

pub put_passed-requires : goal.put_passed-requires
put_passed-requires g c =
    let e : after_lead c.args.found.lead (chars c.args.text.now) ≡ Some (chars c.in-Some.start.now) =
    search rules in
    subst (λ o. IfSome o (EndsWith (chars c.args.text.now))) e
    (ahead-lead c.args.found.lead (chars c.args.text.now))

pub returns : goal.returns
returns g c =
    let text : List ℕ = chars c.args.text.now in
    let start : List ℕ = chars c.in-Some.start.now in
    let said : List ℕ → List ℕ =
    form_said c.args.voice (in_front c.args.before.now) (found_of c.args.found) in
    let e : after_lead c.args.found.lead text ≡ Some start = search rules in
    on_ok_weaker c.put_form.result
    (λ last. subst
    (λ o. g.S.Sink.took c.args.sink.now c.put_form.new.sink
    (encode_utf8_all (option_map_or (λ rest. characters_before text rest ++ said rest) o [])))
    (sym e)
    (said-both g.S.Sink.took g.met.S.Sink.took_both _ _ _ (characters_before text start) (said start)
    c.in_ok-put_passed.ensures last))
    c.put_form.ensures
