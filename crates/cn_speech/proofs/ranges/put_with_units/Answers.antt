use Rattle.std.proofs.Common.{chars}
use Rattle.std.proofs.lemmas.Result.{on_ok_weaker}
use Rattle.cn_find.specs.Spans.{in_front}
use Rattle.cn_phrase.specs.Ranges.{ends_of}
use Rattle.cn_speech.specs.SpokenRanges.{end_said, units_said}
use Rattle.cn_speech.proofs.Said.{said-both}
use Rattle.cn_speech.proofs.ranges.put_with_units.Goals as goal

pub returns : goal.returns
returns g c = on_ok_weaker c.put_units.result
    (said-both g.S.Sink.took g.met.S.Sink.took_both _ _ _
    (end_said c.args.voice (in_front c.args.before.now) (chars c.args.ends.low.text.now))
    (units_said (ends_of c.args.ends)) c.in_ok-put_end.ensures) c.put_units.ensures
