use Rattle.std.proofs.Common.{chars, codes}
use Rattle.std.proofs.lemmas.Result.{on_ok_weaker}
use Rattle.cn_speech.specs.Numbers.{figures_said}
use Rattle.cn_speech.proofs.Said.{said-three}
use Rattle.cn_speech.proofs.pairs.put_share.Goals as goal

pub returns : goal.returns
returns g c = on_ok_weaker c.put_figures-2.result
    (said-three g.S.Sink.took g.met.S.Sink.took_both _ _ _ _
    (figures_said c.args.voice (chars c.args.divisor.now)) (codes "分之")
    (figures_said c.args.voice (chars c.args.number.now))
    c.in_ok-put_figures.ensures c.in_ok-put_divided.ensures) c.put_figures-2.ensures
