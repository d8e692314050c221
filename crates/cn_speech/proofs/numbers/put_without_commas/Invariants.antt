use Rattle.std.proofs.Common.{chars, length}
use denote.Shadow.{shadow}
use denote.Text.{Utf8}
use Rattle.cn_speech.proofs.Said.{SaidSoFar}
use Rattle.cn_speech.specs.Numbers.{one_by_one, plain}
use Rattle.cn_speech.proofs.numbers.put_without_commas.Given as goal

abbrev pub invariant-putting : goal.invariant-putting
invariant-putting g l = record {
  so_far : SaidSoFar g.S.Sink.took (one_by_one l.voice (plain (chars l.fn.figures)))
      (one_by_one l.voice (plain (chars l.rest))) l.fn.sink l.sink;
  utf8 : shadow (Utf8 l.rest);
}

abbrev pub decreases-putting : goal.decreases-putting
decreases-putting g l = length l.rest
