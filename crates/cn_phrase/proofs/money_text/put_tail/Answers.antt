use Rattle.std.proofs.Common.{ap, rules}
use Rattle.cn_phrase.specs.MoneyText.{part_text}
use Rattle.cn_replace.proofs.Texts.{so_far-all, so_far-more, so_far-none}
use Rattle.cn_phrase.proofs.money_text.put_tail.Goals as goal

pub putting-init : goal.putting-init
putting-init g c = record {
  so_far = so_far-none g.S.Sink.took g.met.S.Sink.took_both _ _ (g.met.S.Sink.took_none c.args.sink.now);
  utf8 = search rules;
}

pub putting-preserved : goal.putting-preserved
putting-preserved g c = record {
  so_far = so_far-more g.S.Sink.took g.met.S.Sink.took_both _ _ _ _ _ _ _ c.putting.invariant.so_far
      (ap part_text c.in-Some.ensures.parts) c.in_ok-put_character.ensures;
  utf8 = search rules;
}

pub returns : goal.returns
returns g c =
    so_far-all g.S.Sink.took g.met.S.Sink.took_both _ _ _ _ c.putting.invariant.so_far
    (ap part_text c.in_default.ensures.parts)
