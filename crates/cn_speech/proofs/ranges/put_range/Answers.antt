use Rattle.std.proofs.Common.{chars}
use Rattle.std.proofs.lemmas.Result.{on_ok_weaker}
use Rattle.cn_find.specs.Spans.{in_front}
use Rattle.cn_phrase.specs.Ranges.{ends_of}
use Rattle.cn_speech.specs.SpokenExpressions.{measure_said}
use Rattle.cn_speech.specs.SpokenRanges.{high_said, link_said, low_said}
use Rattle.cn_speech.proofs.Said.{said-both, said-three}
use Rattle.cn_speech.proofs.ranges.put_range.Goals as goal

pub returns : goal.returns
returns g c =
    let both = g.met.S.Sink.took_both in
    let ends = ends_of c.args.ends in
    let front = in_front c.args.before.now in
    let high = high_said c.args.voice front ends in
    let measure = measure_said c.args.voice ends.rest in
    on_ok_weaker c.put_measure.result
    (λ last. said-both g.S.Sink.took both _ _ _ (low_said c.args.voice front ends) _ c.in_ok-put_low.ensures
    (said-three g.S.Sink.took both _ _ _ _ (link_said ends.link) high measure
    c.in_ok-put_link.ensures c.in_ok-put_high.ensures last))
    c.put_measure.ensures
