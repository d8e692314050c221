use Rattle.std.proofs.lemmas.Result.{on_ok_weaker}
use Rattle.cn_speech.proofs.Said.{said-both}
use Rattle.cn_speech.proofs.money.put_money.Goals as goal

pub returns : goal.returns
returns g c =
    let both = g.met.S.Sink.took_both in
    on_ok_weaker c.put_parts.result
    (λ last. said-both g.S.Sink.took both _ _ _ _ _
    c.in_ok-put_amount.ensures
    (said-both g.S.Sink.took both _ _ _ _ _
    c.in_ok-put_yuan.ensures last))
    c.put_parts.ensures
