use Rattle.std.proofs.Common.{◌-◌, ◌≤◌, drop, length}
use Rattle.cn_phrase.specs.Pieces.{reading_of}
use Rattle.cn_phrase.proofs.PiecesPut.{PutPieces}
use Rattle.cn_phrase.proofs.written.put_pieces.Given as goal

abbrev pub invariant-writing : goal.invariant-writing
invariant-writing g l = record {
  within : l.count ≤ length l.pieces;
  put : PutPieces g.S.Sink.took l.pieces (reading_of l.progress) l.fn.sink l.sink
      (drop l.count l.pieces) (reading_of l.read);
}

abbrev pub decreases-writing : goal.decreases-writing
decreases-writing g l = length l.pieces - l.count
