use Rattle.std.proofs.Common.{arith, drop, sym, ap, chars}
use Rattle.std.proofs.lemmas.List.{drop_more, drop_all}
use Rattle.cn_phrase.specs.Pieces.{reading_of}
use Rattle.cn_speech.specs.SpokenPhrases.{pieces_said}
use Rattle.cn_speech.proofs.PiecesSaid.{said-pieces}
use Rattle.cn_speech.proofs.Said.{so_far-all, so_far-more, so_far-none}
use Rattle.cn_speech.proofs.phrases.Manner.put_pieces.Goals as goal

pub speaking-init : goal.speaking-init
speaking-init g c = record {
  within = omega arith;
  so_far = so_far-none g.S.Sink.took g.met.S.Sink.took_both _ _ (g.met.S.Sink.took_none c.args.sink.now);
}

pub speaking-preserved : goal.speaking-preserved
speaking-preserved g c = record {
  within = omega (arith, c.speaking-test.true);
  so_far = so_far-more g.S.Sink.took g.met.S.Sink.took_both _ _ _ _ _ _ _ c.speaking.invariant.so_far
      (said-pieces c.args.self _ _ _ (reading_of c.speaking.read) _ (chars c.without_blank-text.result.now)
      (drop_more c.args.pieces.now c.speaking.count _ c.speaking-test.true)
      (sym c.in-Some.ensures) (sym c.without_blank-text.ensures)) c.in_ok-put_piece.ensures;
}

pub returns : goal.returns
returns g c =
    so_far-all g.S.Sink.took g.met.S.Sink.took_both _ _ _ _ c.speaking.invariant.so_far
    (ap (λ l. pieces_said c.args.self l (reading_of c.speaking.read))
    (drop_all c.speaking.count c.args.pieces.now c.speaking-test.false))
