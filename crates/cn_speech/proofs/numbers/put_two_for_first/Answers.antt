use Rattle.std.proofs.Common.{chars, sym}
use Rattle.std.proofs.lemmas.Result.{on_ok_weaker}
use Rattle.cn_speech.specs.Voice.{two}
use Rattle.cn_speech.proofs.Said.{said-both}
use Rattle.cn_speech.proofs.numbers.put_two_for_first.Goals as goal

pub returns : goal.returns
returns g c = rw (sym c.without_first.ensures) (on_ok_weaker c.put_same.result
    (said-both g.S.Sink.took g.met.S.Sink.took_both _ _ _
    (two c.args.voice)
    (chars c.without_first.result.now)
    c.in_ok-put_two.ensures) c.put_same.ensures)
