use Rattle.std.proofs.Common.{chars, codes}
use Rattle.std.proofs.lemmas.Result.{on_ok_weaker}
use Rattle.cn_speech.specs.Numbers.{one_by_one}
use Rattle.cn_speech.specs.Voice.{word}
use Rattle.cn_speech.proofs.Said.{said-both}
use Rattle.cn_speech.proofs.numbers.put_point_and.Goals as goal

pub returns : goal.returns
returns g c = on_ok_weaker c.put_one_by_one.result
    (said-both g.S.Sink.took g.met.S.Sink.took_both _ _ _
    (word c.args.voice (codes "点"))
    (one_by_one c.args.voice (chars c.args.decimals.now))
    c.in_ok-put_point.ensures) c.put_one_by_one.ensures
