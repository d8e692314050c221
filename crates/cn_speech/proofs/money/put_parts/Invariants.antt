use Rattle.std.proofs.Common.{chars, length, map}
use denote.Shadow.{shadow}
use denote.Text.{Utf8}
use Rattle.cn_speech.specs.SpokenMoney.{part_said}
use Rattle.cn_speech.proofs.Said.{SaidSoFar}
use Rattle.cn_speech.proofs.money.put_parts.Given as goal

abbrev pub invariant-putting : goal.invariant-putting
invariant-putting g l = record {
  so_far : SaidSoFar g.S.Sink.took (map (part_said l.fn.voice) (chars l.fn.text))
      (map (part_said l.fn.voice) (chars l.rest)) l.fn.sink l.sink;
  utf8 : shadow (Utf8 l.rest);
}

abbrev pub decreases-putting : goal.decreases-putting
decreases-putting g l = length l.rest
