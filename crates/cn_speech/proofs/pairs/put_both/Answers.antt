use Rattle.std.proofs.Common.{[], ◌∷◌, ◌++◌, chars}
use Rattle.std.proofs.lemmas.Result.{on_ok_weaker}
use Rattle.cn_speech.specs.Numbers.{figures_said}
use Rattle.cn_speech.specs.Voice.{word}
use Rattle.cn_speech.proofs.Said.{said-both}
use Rattle.cn_speech.proofs.pairs.put_both.Goals as goal

pub returns : goal.returns
returns g c = on_ok_weaker c.put_between.result
    (said-both g.S.Sink.took g.met.S.Sink.took_both _ _ _
    (figures_said c.args.voice (chars c.args.first.now))
    (word c.args.voice (c.args.between ∷ []) ++ figures_said c.args.voice (chars c.args.second.now))
    c.in_ok-put_figures.ensures) c.put_between.ensures
