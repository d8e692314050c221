use Rattle.std.proofs.Common.{[], ◌++◌, ◌∙◌, ap, chars, refl, rules, subst, sym}
use Rattle.cn_find.specs.Spans.{in_front, text_before}
use Rattle.cn_find.proofs.Runs.{IsEnd-at}
use Rattle.std.specs.Option.{option_map}
use Rattle.cn_speech.specs.Speech.{speech_from, text_here}
use Rattle.cn_speech.specs.SpokenParts.{part_of}
use Rattle.cn_speech.proofs.MeantTexts.{front-none}
use Rattle.cn_speech.proofs.Said.{SaidSoFar, so_far-all, so_far-more, so_far-none}
use Rattle.cn_speech.proofs.SpeechSteps.{SpeechStep, SpeechStep-of, all-spoken, leaves-bytes, rest-of, within-of}
use Rattle.cn_speech.proofs.speech.put_speech.Goals as goal

pub speaking-init : goal.speaking-init
speaking-init g c = record {
  so_far = subst (λ l. SaidSoFar g.S.Sink.took
      (speech_from c.args.voice c.args.wanted 0 [] (chars c.args.meant.now) (chars c.args.text.now))
      (speech_from c.args.voice c.args.wanted 0 l (chars c.args.meant.now) (chars c.args.text.now))
      c.args.sink.now c.args.sink.now) (sym (front-none c.args.meant.now))
      (so_far-none g.S.Sink.took g.met.S.Sink.took_both _ _ (g.met.S.Sink.took_none c.args.sink.now));
  ends = IsEnd-at _ [] _ refl;
  ahead_utf8 = search rules;
  given_utf8 = search rules;
}

pub after_as_many-next-requires : goal.after_as_many-next-requires
after_as_many-next-requires g c = let leaves = rest-of c.args.wanted
    (in_front (text_before c.args.meant.now c.speaking.ahead.now)) _ _ _ _ _
    c.in-Some.ensures.parts c.part_at-part.ensures c.rest_here-rest.ensures in leaves.0

pub put_here-requires-clause-within : goal.put_here-requires-clause-within
put_here-requires-clause-within g c = within-of c.args.wanted
    (in_front (text_before c.args.meant.now c.speaking.ahead.now)) _ _ c.part_at-part.ensures

pub speaking-preserved : goal.speaking-preserved
speaking-preserved g c =
    let step : SpeechStep c.args.voice c.args.wanted c.args.meant.now c.speaking.ahead.now
    c.speaking.given.now c.rest_here-rest.result.now c.after_as_many-next.result.now
    c.text_before.result.now (option_map part_of c.part_at-part.result) =
    SpeechStep-of c.args.wanted c.args.meant.now c.speaking.ahead.now c.speaking.given.now
    c.in-Some.behind.now c.rest_here-rest.result.now c.after_as_many-next.result.now
    c.text_before.result.now _ (option_map part_of c.part_at-part.result) c.speaking.invariant.ends
    c.utf8.meant c.speaking.invariant.ahead_utf8 (search rules) c.text_before.utf8 c.in-Some.ensures.parts
    c.part_at-part.ensures c.rest_here-rest.ensures c.after_as_many-next.ensures.rest
    (sym c.after_as_many-next.ensures.ends
    ∙ ap (λ l. l ++ c.after_as_many-next.result.now) (sym c.text_before.ensures)) c.args.voice in
    record {
      so_far = so_far-more g.S.Sink.took g.met.S.Sink.took_both _ _
          (speech_from c.args.voice c.args.wanted 0
          (in_front (text_before c.args.meant.now c.rest_here-rest.result.now))
          (chars c.rest_here-rest.result.now) (chars c.after_as_many-next.result.now))
          (text_here c.args.voice (in_front (text_before c.args.meant.now c.speaking.ahead.now))
          (chars c.speaking.ahead.now) (chars c.text_before.result.now)
          (option_map part_of c.part_at-part.result))
          _ _ _ c.speaking.invariant.so_far step.same c.in_ok-put_here.ensures;
      ends = step.ends;
      ahead_utf8 = search rules;
      given_utf8 = search rules;
    }

pub speaking-smaller : goal.speaking-smaller
speaking-smaller g c = leaves-bytes c.speaking.ahead.now c.rest_here-rest.result.now
    c.speaking.invariant.ahead_utf8 c.rest_here-rest.utf8 (rest-of c.args.wanted
    (in_front (text_before c.args.meant.now c.speaking.ahead.now)) _ _ _ _ _
    c.in-Some.ensures.parts c.part_at-part.ensures c.rest_here-rest.ensures)

pub returns : goal.returns
returns g c = all-spoken g.S.Sink.took c.args.voice c.args.wanted _ _ c.args.text.now c.args.meant.now c.requires
    (so_far-all g.S.Sink.took g.met.S.Sink.took_both _ _ _ _ c.speaking.invariant.so_far
    (ap (λ l. speech_from c.args.voice c.args.wanted 0
    (in_front (text_before c.args.meant.now c.speaking.ahead.now)) l (chars c.speaking.given.now))
    c.in_default.ensures.parts))
