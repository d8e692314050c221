use Rattle.std.proofs.Common.{ℕ, List, [], ◌∷◌, ap, chars, rules, ◌∙◌}
use Rattle.cn_speech.proofs.Said.{so_far-all, so_far-more, so_far-none}
use Rattle.cn_speech.proofs.Plain.{commas-apart}
use Rattle.cn_speech.specs.Numbers.{one_by_one, plain}
use Rattle.cn_speech.proofs.numbers.put_without_commas.Goals as goal

pub putting-init : goal.putting-init
putting-init g c = record {
  so_far = so_far-none g.S.Sink.took g.met.S.Sink.took_both _ _ (g.met.S.Sink.took_none c.args.sink.now);
  utf8 = search rules;
}

pub putting-preserved : goal.putting-preserved
putting-preserved g c = record {
  so_far = so_far-more g.S.Sink.took g.met.S.Sink.took_both _ _
      (one_by_one c.args.voice (plain (chars c.in-Some.others.now)))
      (one_by_one c.args.voice (plain (c.in-Some.c ∷ [])))
      _ _ _ c.putting.invariant.so_far
      (ap (λ (t : List ℕ). one_by_one c.args.voice (plain t)) c.in-Some.ensures.parts
      ∙ commas-apart c.args.voice c.in-Some.c (chars c.in-Some.others.now))
      c.in_ok-put_unless_comma.ensures;
  utf8 = search rules;
}

pub returns : goal.returns
returns g c =
    so_far-all g.S.Sink.took g.met.S.Sink.took_both _ _ _ _ c.putting.invariant.so_far
    (ap (λ (t : List ℕ). one_by_one c.args.voice (plain t)) c.in_default.ensures.parts)
