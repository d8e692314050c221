use Rattle.std.proofs.Common.{chars, codes}
use Rattle.std.proofs.lemmas.Result.{on_ok_weaker}
use Rattle.cn_speech.specs.Numbers.{as_written}
use Rattle.cn_speech.proofs.Said.{said-both}
use Rattle.cn_speech.proofs.numbers.put_per_mille.Goals as goal

pub returns : goal.returns
returns g c = on_ok_weaker c.put_as_written.result
    (said-both g.S.Sink.took g.met.S.Sink.took_both _ _ _
    (codes "千分之")
    (as_written c.args.voice 32 (chars c.args.text.now))
    c.in_ok-put_thousandths.ensures) c.put_as_written.ensures
