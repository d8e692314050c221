use Rattle.std.proofs.Common.{◌-◌, ◌≤◌, drop, length}
use Rattle.cn_phrase.specs.Pieces.{reading_of}
use Rattle.cn_speech.specs.SpokenPhrases.{pieces_said}
use Rattle.cn_speech.proofs.Said.{SaidSoFar}
use Rattle.cn_speech.proofs.phrases.Manner.put_pieces.Given as goal

abbrev pub invariant-speaking : goal.invariant-speaking
invariant-speaking g l = record {
  within : l.count ≤ length l.pieces;
  so_far : SaidSoFar g.S.Sink.took (pieces_said l.self l.pieces (reading_of l.progress))
      (pieces_said l.self (drop l.count l.pieces) (reading_of l.read)) l.fn.sink l.sink;
}

abbrev pub decreases-speaking : goal.decreases-speaking
decreases-speaking g l = length l.pieces - l.count
