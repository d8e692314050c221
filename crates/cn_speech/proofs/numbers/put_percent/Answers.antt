use Rattle.std.proofs.Common.{chars, codes}
use Rattle.std.proofs.lemmas.Result.{on_ok_weaker}
use Rattle.cn_speech.specs.Numbers.{hundreds_said}
use Rattle.cn_speech.proofs.Said.{said-both}
use Rattle.cn_speech.proofs.numbers.put_percent.Goals as goal

pub returns : goal.returns
returns g c = on_ok_weaker c.put_hundreds.result
    (said-both g.S.Sink.took g.met.S.Sink.took_both _ _ _
    (codes "百分之")
    (hundreds_said c.args.voice (chars c.args.text.now))
    c.in_ok-put_hundredths.ensures) c.put_hundreds.ensures
