use Rattle.std.proofs.Common.{chars, codes}
use Rattle.std.proofs.lemmas.Result.{on_ok_weaker}
use Rattle.cn_speech.specs.Pairs.{both}
use Rattle.cn_speech.proofs.Said.{said-both}
use Rattle.cn_speech.proofs.pairs.put_pressure.Goals as goal

pub returns : goal.returns
returns g c = on_ok_weaker c.put_measure.result
    (said-both g.S.Sink.took g.met.S.Sink.took_both _ _ _
    (both c.args.voice (chars c.args.high.now) (codes "比") (chars c.args.low.now))
    (codes "毫米汞柱")
    c.in_ok-put_both.ensures) c.put_measure.ensures
