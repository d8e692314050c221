use Rattle.std.proofs.Common.{sym}
use Rattle.std.proofs.lemmas.Result.{on_ok_weaker}
use Rattle.cn_speech.proofs.Said.{said-both}
use Rattle.cn_speech.proofs.numbers.put_whole_part.Goals as goal

pub returns : goal.returns
returns g c = rw (sym c.without_blank.ensures) (on_ok_weaker c.put_whole_number.result
    (said-both g.S.Sink.took g.met.S.Sink.took_both _ _ _ _ _ c.in_ok-put_gap.ensures) c.put_whole_number.ensures)
