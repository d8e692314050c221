use Rattle.std.proofs.Common.{[], ◌∷◌}
use Rattle.cn_replace.proofs.KeptTexts.{below_zero_is}
use Rattle.cn_replace.proofs.Texts.{if_puts, piece-then}
use Rattle.cn_replace.proofs.kept.put_kept.Goals as goal

pub before_rest-requires : goal.before_rest-requires
before_rest-requires g c =
    let e = c.in-Some.ensures in record { front = e.0 ∷ e.1 ∷ []; parts = e.3 }

pub returns : goal.returns
returns g c =
    let e = c.in-Some.ensures in
    if_puts g.S.Sink.took _ _ _ _ _ (below_zero_is _ _ _ _ _ _ e.2 e.3 c.before_rest.ensures)
    (piece-then g.S.Sink.took g.met.S.Sink.took_both _ _ _ _ _ _ c.in_ok-put_same.ensures
    c.put_unsigned.ensures)
