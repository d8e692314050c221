use Rattle.std.proofs.Common.{chars, sym}
use Rattle.std.proofs.lemmas.Result.{on_ok_weaker}
use Rattle.cn_replace.specs.Pieces.{leading}
use Rattle.cn_speech.specs.Numbers.{decimals_said, is_of_figures, whole_part_said}
use Rattle.cn_speech.proofs.Said.{said-both}
use Rattle.cn_speech.proofs.numbers.put_stretch.Goals as goal

pub returns : goal.returns
returns g c = rw (sym c.split_leading.ensures.leading, sym c.split_leading.ensures.after)
    (on_ok_weaker c.put_decimals_of.result
    (said-both g.S.Sink.took g.met.S.Sink.took_both _ _ _
    (whole_part_said c.args.voice c.args.previous (chars c.split_leading.result.0.now)
    (chars c.split_leading.result.1.now))
    (decimals_said c.args.voice (leading is_of_figures (chars c.split_leading.result.1.now)))
    c.in_ok-put_whole_part.ensures) c.put_decimals_of.ensures)
