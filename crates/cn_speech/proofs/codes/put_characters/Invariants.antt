use Rattle.std.proofs.Common.{chars, length}
use denote.Shadow.{shadow}
use denote.Text.{Utf8}
use Rattle.cn_speech.proofs.Said.{SaidSoFar}
use Rattle.cn_speech.specs.SpokenCodes.{characters_said}
use Rattle.cn_speech.proofs.codes.put_characters.Given as goal

abbrev pub invariant-putting : goal.invariant-putting
invariant-putting g l = record {
  so_far : SaidSoFar g.S.Sink.took (characters_said l.voice l.kind (chars l.fn.written))
      (characters_said l.voice l.kind (chars l.rest)) l.fn.sink l.sink;
  utf8 : shadow (Utf8 l.rest);
}

abbrev pub decreases-putting : goal.decreases-putting
decreases-putting g l = length l.rest
