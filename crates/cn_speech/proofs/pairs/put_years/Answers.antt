use Rattle.std.proofs.Common.{◌++◌, chars, codes}
use Rattle.std.proofs.lemmas.Result.{on_ok_weaker}
use Rattle.cn_speech.specs.Numbers.{one_by_one}
use Rattle.cn_speech.proofs.Said.{said-both}
use Rattle.cn_speech.proofs.pairs.put_years.Goals as goal

pub returns : goal.returns
returns g c = on_ok_weaker c.put_to_year.result
    (said-both g.S.Sink.took g.met.S.Sink.took_both _ _ _
    (one_by_one c.args.voice (chars c.args.first.now))
    (codes "到" ++ one_by_one c.args.voice (chars c.args.second.now))
    c.in_ok-put_one_by_one.ensures) c.put_to_year.ensures
