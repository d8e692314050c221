use Rattle.cn_replace.proofs.Tenths.{chosen, tenth_is}
use Rattle.cn_replace.proofs.Texts.{and-after, if_puts, none-first, puts}
use Rattle.cn_replace.proofs.numbers.put_small.Goals as goal

pub returns-then-not-branch : goal.returns-then-not-branch
returns-then-not-branch g c =
    let e = c.in-Some.ensures in
    puts g.S.Sink.took _ _ _ _ _ (chosen _ _ _ _ e.0 (tenth_is _ _ _ _ _ _ e.1.1 e.1.2))
    (none-first g.S.Sink.took _ _ _ _ _ _ c.if-not-branch.true c.in_ok-put_read.ensures)

pub returns : goal.returns
returns g c =
    let e = c.in-Some.ensures in
    if_puts g.S.Sink.took _ _ _ _ _ (chosen _ _ _ _ e.0 (tenth_is _ _ _ _ _ _ e.1.1 e.1.2))
    (and-after g.S.Sink.took g.met.S.Sink.took_both _ _ _ _ _ _ _ c.if-not-branch.false
    c.in_ok-put_read.ensures c.put_tenth.ensures)
