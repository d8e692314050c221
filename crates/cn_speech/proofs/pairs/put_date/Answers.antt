use Rattle.std.proofs.Common.{chars, codes}
use Rattle.std.proofs.lemmas.Result.{on_ok_weaker}
use Rattle.cn_speech.specs.Pairs.{both}
use Rattle.cn_speech.proofs.Said.{said-both}
use Rattle.cn_speech.proofs.pairs.put_date.Goals as goal

pub returns : goal.returns
returns g c = on_ok_weaker c.put_char.result
    (said-both g.S.Sink.took g.met.S.Sink.took_both _ _ _
    (both c.args.voice (chars c.args.month.now) (codes "月") (chars c.args.day.now))
    (codes "日")
    c.in_ok-put_both.ensures) c.put_char.ensures
