use Rattle.std.proofs.Common.{chars, length, []}
use denote.Shadow.{shadow}
use denote.Text.{Utf8}
use Rattle.cn_find.specs.Spans.{in_front, text_before}
use Rattle.cn_find.proofs.Runs.{IsEnd}
use Rattle.cn_speech.specs.Speech.{speech_from}
use Rattle.cn_speech.proofs.Said.{SaidSoFar}
use Rattle.cn_speech.proofs.speech.put_speech.Given as goal

abbrev pub invariant-speaking : goal.invariant-speaking
invariant-speaking g l = record {
  so_far : SaidSoFar g.S.Sink.took
      (speech_from l.fn.voice l.fn.wanted 0 [] (chars l.fn.meant) (chars l.fn.text))
      (speech_from l.fn.voice l.fn.wanted 0 (in_front (text_before l.fn.meant l.ahead))
      (chars l.ahead) (chars l.given)) l.fn.sink l.sink;
  ends : IsEnd l.fn.meant l.ahead;
  ahead_utf8 : shadow (Utf8 l.ahead);
  given_utf8 : shadow (Utf8 l.given);
}

abbrev pub decreases-speaking : goal.decreases-speaking
decreases-speaking g l = length l.ahead
