use Rattle.std.proofs.Common.{chars, length}
use denote.Shadow.{shadow}
use denote.Text.{Utf8}
use Rattle.cn_speech.specs.Voice.{word}
use Rattle.cn_speech.proofs.Said.{SaidSoFar}
use Rattle.cn_speech.proofs.voice.put_word.Given as goal

abbrev pub invariant-putting : goal.invariant-putting
invariant-putting g l = record {
  so_far : SaidSoFar g.S.Sink.took (word l.fn.voice (chars l.fn.written))
      (word l.fn.voice (chars l.rest)) l.fn.sink l.sink;
  utf8 : shadow (Utf8 l.rest);
}

abbrev pub decreases-putting : goal.decreases-putting
decreases-putting g l = length l.rest
