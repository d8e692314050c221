use Rattle.std.proofs.lemmas.Result.{on_ok_weaker}
use Rattle.cn_speech.proofs.Said.{said-three}
use Rattle.cn_speech.proofs.part.put_utterance.Goals as goal

pub returns : goal.returns
returns g c =
    on_ok_weaker c.put_tail.result
    (λ last. said-three g.S.Sink.took g.met.S.Sink.took_both _ _ _ _ _ _ _
    c.in_ok-put_said.ensures c.in_ok-put_name.ensures last)
    c.put_tail.ensures
