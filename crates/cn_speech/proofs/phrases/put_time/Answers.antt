use Rattle.std.proofs.lemmas.Result.{on_ok_weaker}
use Rattle.cn_speech.proofs.Said.{said-both}
use Rattle.cn_speech.proofs.phrases.put_time.Goals as goal

pub returns : goal.returns
returns g c =
    let both = g.met.S.Sink.took_both in
    on_ok_weaker c.put_minutes_and_seconds.result
    (λ last. said-both g.S.Sink.took both _ _ _ _ _
    c.in_ok-put_counted.ensures
    (said-both g.S.Sink.took both _ _ _ _ _
    c.in_ok-put_word.ensures last))
    c.put_minutes_and_seconds.ensures
