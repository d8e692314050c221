use Rattle.std.proofs.Common.{chars, codes}
use Rattle.std.proofs.lemmas.Result.{on_ok_weaker}
use Rattle.cn_find.specs.Spans.{in_front}
use Rattle.cn_speech.specs.SpokenRanges.{end_said}
use Rattle.cn_speech.specs.Voice.{word}
use Rattle.cn_speech.proofs.Said.{said-both}
use Rattle.cn_speech.proofs.ranges.put_share.Goals as goal

pub returns : goal.returns
returns g c = on_ok_weaker c.put_end.result
    (said-both g.S.Sink.took g.met.S.Sink.took_both _ _ _ (word c.args.voice (codes "百分之"))
    (end_said c.args.voice (in_front c.args.before.now) (chars c.args.low.now))
    c.in_ok-put_hundredths.ensures) c.put_end.ensures
