use Rattle.std.proofs.Common.{[], ◌∷◌, ◌∙◌, ap, chars, rules, sym}
use Rattle.cn_speech.specs.Voice.{word}
use Rattle.cn_speech.proofs.Said.{so_far-all, so_far-more, so_far-none}
use Rattle.cn_speech.proofs.voice.put_word.Goals as goal

pub putting-init : goal.putting-init
putting-init g c = record {
  so_far = so_far-none g.S.Sink.took g.met.S.Sink.took_both _ _ (g.met.S.Sink.took_none c.args.sink.now);
  utf8 = search rules;
}

pub putting-preserved : goal.putting-preserved
putting-preserved g c = record {
  so_far = so_far-more g.S.Sink.took g.met.S.Sink.took_both _ _
      (word c.args.voice (chars c.in-Some.others.now)) (c.in_script.result ∷ [])
      _ _ _ c.putting.invariant.so_far (ap (word c.args.voice) c.in-Some.ensures.parts
      ∙ ap (λ k. k ∷ word c.args.voice (chars c.in-Some.others.now)) (sym c.in_script.ensures))
      c.in_ok-put_char.ensures;
  utf8 = search rules;
}

pub returns : goal.returns
returns g c =
    so_far-all g.S.Sink.took g.met.S.Sink.took_both _ _ _ _ c.putting.invariant.so_far
    (ap (word c.args.voice) c.in_default.ensures.parts)
