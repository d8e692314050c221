use Rattle.std.proofs.Common.{IfSome, arith, chars, subst, sym}
use Rattle.std.proofs.lemmas.List.{drop_more}
use Rattle.cn_phrase.specs.Pieces.{reading_of}
use Rattle.cn_phrase.proofs.PiecesPut.{pieces_more}
use Rattle.cn_phrase.proofs.Suffixes.{Ends-self, Within, within-piece}
use Rattle.cn_phrase.proofs.written.put_pieces.Goals as goal

pub put_piece-requires : goal.put_piece-requires
put_piece-requires g c =
    subst (λ o. IfSome o (Within (chars c.writing.read.rest.now))) (sym c.in-Some.ensures)
    (within-piece (chars c.writing.read.rest.now) _ (reading_of c.writing.read)
    (Ends-self (chars c.writing.read.rest.now)))

pub writing-preserved : goal.writing-preserved
writing-preserved g c = record {
  within = omega (arith, c.writing-test.true);
  put = pieces_more g.S.Sink.took g.met.S.Sink.took_both _ _ _ _ _ _ c.writing.invariant.put _ _
      (drop_more c.args.pieces.now c.writing.count _ c.writing-test.true) _ _
      (sym c.in-Some.ensures) c.in_ok-put_piece.ensures;
}
