use Rattle.cn_replace.specs.KeptNumbers.{number_text}
use Rattle.cn_replace.proofs.KeptTexts.{signed_is}
use Rattle.cn_replace.proofs.Texts.{if_puts, piece-then}
use Rattle.cn_replace.proofs.kept.put_signed.Goals as goal

pub returns : goal.returns
returns g c =
    if_puts g.S.Sink.took c.args.sink.now c.put_number-2.new.sink _ _ c.put_number-2.result
    (signed_is (number_text c.args.method) _ _ _ c.in-Some.ensures.1 c.in-Some.ensures.2)
    (piece-then g.S.Sink.took g.met.S.Sink.took_both _ _ _ _ _ _ c.in_ok-put.ensures
    c.put_number-2.ensures)
