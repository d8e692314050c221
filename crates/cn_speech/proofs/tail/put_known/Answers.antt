use Rattle.std.proofs.lemmas.Result.{on_ok_weaker}
use Rattle.cn_speech.proofs.Said.{said-both}
use Rattle.cn_speech.proofs.tail.put_known.Goals as goal

pub returns : goal.returns
returns g c =
    on_ok_weaker c.put_word.result
    (λ last. said-both g.S.Sink.took g.met.S.Sink.took_both _ _ _ _ _ c.in_ok-put_same.ensures last)
    c.put_word.ensures
