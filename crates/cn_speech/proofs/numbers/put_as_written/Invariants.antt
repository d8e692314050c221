use Rattle.std.proofs.Common.{chars, length}
use denote.Shadow.{shadow}
use denote.Text.{Utf8}
use Rattle.cn_speech.proofs.Said.{SaidSoFar}
use Rattle.cn_speech.specs.Numbers.{as_written}
use Rattle.cn_speech.proofs.numbers.put_as_written.Given as goal

abbrev pub invariant-putting : goal.invariant-putting
invariant-putting g l = record {
  so_far : SaidSoFar g.S.Sink.took (as_written l.voice l.fn.before (chars l.fn.text))
      (as_written l.voice l.previous (chars l.rest)) l.fn.sink l.sink;
  utf8 : shadow (Utf8 l.rest);
}

abbrev pub decreases-putting : goal.decreases-putting
decreases-putting g l = length l.rest
