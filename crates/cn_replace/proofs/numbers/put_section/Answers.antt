use Rattle.cn_replace.proofs.Tenths.{section_is}
use Rattle.cn_replace.proofs.Texts.{if_puts, piece-then}
use Rattle.cn_replace.proofs.numbers.put_section.Goals as goal

pub returns : goal.returns
returns g c =
    if_puts g.S.Sink.took _ _ _ _ _
    (section_is _ _ _ _ c.split_leading.ensures.leading c.split_leading.ensures.after)
    (piece-then g.S.Sink.took g.met.S.Sink.took_both _ _ _ _ _ _ c.in_ok-put_same.ensures
    c.put_counted.ensures)
