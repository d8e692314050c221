use Rattle.std.proofs.Common.{[], ◌∷◌, ap, chars, refl, rules, subst, sym}
use Rattle.cn_find.specs.Spans.{in_front, text_before}
use Rattle.cn_find.proofs.Runs.{IsEnd-at}
use Rattle.cn_speech.specs.Meant.{as_meant, meant_from}
use Rattle.cn_speech.proofs.MeantTexts.{MeantStep, MeantStep-of, front-none}
use Rattle.cn_speech.proofs.Said.{SaidSoFar, so_far-all, so_far-more, so_far-none}
use Rattle.cn_speech.proofs.meant.put_as_meant.Goals as goal

pub putting-init : goal.putting-init
putting-init g c = record {
  so_far = subst (λ l. SaidSoFar g.S.Sink.took (meant_from [] (chars c.args.text.now))
      (meant_from l (chars c.args.text.now)) c.args.sink.now c.args.sink.now)
      (sym (front-none c.args.text.now))
      (so_far-none g.S.Sink.took g.met.S.Sink.took_both _ _ (g.met.S.Sink.took_none c.args.sink.now));
  ends = IsEnd-at _ [] _ refl;
  utf8 = search rules;
}

pub putting-preserved : goal.putting-preserved
putting-preserved g c =
    let step : MeantStep c.args.text.now c.putting.rest.now c.in-Some.others.now c.meant.result =
    MeantStep-of _ _ _ _ _ _ c.text_before.ensures c.putting.invariant.ends c.text_before.utf8
    c.putting.invariant.utf8 (search rules) c.in-Some.ensures.parts c.meant.ensures in
    record {
      so_far = so_far-more g.S.Sink.took g.met.S.Sink.took_both _ _ _
          (c.meant.result ∷ []) _ _ _
          c.putting.invariant.so_far step.same c.in_ok-put_char.ensures;
      ends = step.ends;
      utf8 = search rules;
    }

pub returns : goal.returns
unfolding as_meant
returns g c =
    so_far-all g.S.Sink.took g.met.S.Sink.took_both _ _ _ _ c.putting.invariant.so_far
    (ap (meant_from (in_front (text_before c.args.text.now c.putting.rest.now))) c.in_default.ensures.parts)
