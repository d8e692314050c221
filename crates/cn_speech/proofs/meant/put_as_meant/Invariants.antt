use Rattle.std.proofs.Common.{chars, length, []}
use denote.Shadow.{shadow}
use denote.Text.{Utf8}
use Rattle.cn_find.specs.Spans.{in_front, text_before}
use Rattle.cn_find.proofs.Runs.{IsEnd}
use Rattle.cn_speech.specs.Meant.{meant_from}
use Rattle.cn_speech.proofs.Said.{SaidSoFar}
use Rattle.cn_speech.proofs.meant.put_as_meant.Given as goal

abbrev pub invariant-putting : goal.invariant-putting
invariant-putting g l = record {
  so_far : SaidSoFar g.S.Sink.took (meant_from [] (chars l.fn.text))
      (meant_from (in_front (text_before l.fn.text l.rest)) (chars l.rest)) l.fn.sink l.sink;
  ends : IsEnd l.fn.text l.rest;
  utf8 : shadow (Utf8 l.rest);
}

abbrev pub decreases-putting : goal.decreases-putting
decreases-putting g l = length l.rest
