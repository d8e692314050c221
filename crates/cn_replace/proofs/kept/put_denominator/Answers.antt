use Rattle.std.proofs.Common.{sym, ◌∙◌}
use Rattle.cn_replace.proofs.KeptTexts.{denominator_is}
use Rattle.cn_replace.proofs.Texts.{if_puts, piece-then}
use Rattle.cn_replace.proofs.kept.put_denominator.Goals as goal

pub returns : goal.returns
returns g c =
    if_puts g.S.Sink.took _ _ _ _ _
    (denominator_is _ _ (sym c.is_small.ensures ∙ c.if-not-is_small.false))
    (piece-then g.S.Sink.took g.met.S.Sink.took_both _ _ _ _ _ _ c.in_ok-put.ensures
    c.put_number.ensures)
