use Rattle.std.proofs.Common.{ap, chars, rules}
use Rattle.cn_speech.proofs.Said.{so_far-all, so_far-more, so_far-none}
use Rattle.cn_speech.specs.Numbers.{as_written, character_said}
use Rattle.cn_speech.proofs.numbers.put_as_written.Goals as goal

pub putting-init : goal.putting-init
putting-init g c = record {
  so_far = so_far-none g.S.Sink.took g.met.S.Sink.took_both _ _ (g.met.S.Sink.took_none c.args.sink.now);
  utf8 = search rules;
}

pub putting-preserved : goal.putting-preserved
putting-preserved g c = record {
  so_far = so_far-more g.S.Sink.took g.met.S.Sink.took_both _ _
      (as_written c.args.voice c.in-Some.c (chars c.in-Some.others.now))
      (character_said c.args.voice c.putting.previous c.in-Some.c (chars c.in-Some.others.now))
      _ _ _ c.putting.invariant.so_far
      (ap (as_written c.args.voice c.putting.previous) c.in-Some.ensures.parts)
      c.in_ok-put_character.ensures;
  utf8 = search rules;
}

pub returns : goal.returns
returns g c =
    so_far-all g.S.Sink.took g.met.S.Sink.took_both _ _ _ _ c.putting.invariant.so_far
    (ap (as_written c.args.voice c.putting.previous) c.in_default.ensures.parts)
