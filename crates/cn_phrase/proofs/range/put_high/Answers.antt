use Rattle.std.proofs.Common.{ap, subst, Some}
use Rattle.std.specs.Char.{encode_utf8}
use Rattle.cn_replace.specs.KeptNumbers.{and_text}
use Rattle.cn_replace.proofs.Texts.{if_puts, piece-then}
use Rattle.cn_phrase.specs.Ranges.{end_text}
use Rattle.cn_phrase.proofs.range.put_high.Goals as goal

pub returns : goal.returns
returns g c = if_puts g.S.Sink.took _ _ _ _ _
    (ap (λ more. and_text (Some (encode_utf8 c.args.ends.link))
    (end_text c.args.style c.args.ends.high.text.now more)) c.more_of_high.ensures)
    (piece-then g.S.Sink.took g.met.S.Sink.took_both _ _ _ _ _ _
    (subst (g.S.Sink.took c.args.sink.now _) c.encode_utf8.ensures.value c.in_ok-put.ensures)
    c.put_end.ensures)
