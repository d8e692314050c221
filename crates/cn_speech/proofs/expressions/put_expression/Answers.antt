use Rattle.std.proofs.lemmas.Result.{IfOk-from_err, on_ok_weaker}
use Rattle.cn_speech.proofs.Said.{said-both, said-three}
use Rattle.cn_speech.proofs.expressions.put_expression.Goals as goal

pub returns : goal.returns
returns g c =
    let both = g.met.S.Sink.took_both in
    on_ok_weaker c.put_measure.result
    (λ last. said-both g.S.Sink.took both _ _ _ _ _ c.in_ok-put_minus.ensures
    (said-three g.S.Sink.took both _ _ _ _ _ _ _ c.in_ok-put_counted.ensures c.in_ok-put_yuan.ensures last))
    c.put_measure.ensures

pub returns-in_err-put_yuan : goal.returns-in_err-put_yuan
returns-in_err-put_yuan g c =
    IfOk-from_err c.from_residual-in_err-put_yuan.result _ c.from_residual-in_err-put_yuan.ensures.0
