use Rattle.std.proofs.Common.{◌≡◌, ◌-◌, ◌≤◌, drop, length}
use Rattle.cn_phrase.specs.Pieces.{pieces_read, reading_of}
use Rattle.cn_phrase.proofs.piece.read_pieces.Given as goal

abbrev pub invariant-reading : goal.invariant-reading
invariant-reading l = record {
  within : l.count ≤ length l.pieces;
  same : pieces_read l.pieces (reading_of l.progress)
      ≡ pieces_read (drop l.count l.pieces) (reading_of l.read);
}

abbrev pub decreases-reading : goal.decreases-reading
decreases-reading l = length l.pieces - l.count
