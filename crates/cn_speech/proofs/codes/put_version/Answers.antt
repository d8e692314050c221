use Rattle.std.proofs.Common.{chars, sym}
use Rattle.std.proofs.lemmas.Result.{on_ok_weaker}
use Rattle.cn_speech.specs.Numbers.{figures_said}
use Rattle.cn_speech.specs.SpokenCodes.{characters_said}
use Rattle.cn_speech.proofs.Said.{said-both}
use Rattle.cn_speech.proofs.codes.put_version.Goals as goal

pub returns : goal.returns
returns g c = rw (sym c.split_leading.ensures.leading, sym c.split_leading.ensures.after)
    (on_ok_weaker c.put_characters.result
    (said-both g.S.Sink.took g.met.S.Sink.took_both _ _ _
    (figures_said c.args.voice (chars c.split_leading.result.0.now))
    (characters_said c.args.voice c.args.kind (chars c.split_leading.result.1.now))
    c.in_ok-put_figures.ensures) c.put_characters.ensures)
