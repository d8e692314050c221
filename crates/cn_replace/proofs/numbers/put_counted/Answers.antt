use Rattle.cn_replace.proofs.Tenths.{counted_is}
use Rattle.cn_replace.proofs.Texts.{none-first, puts, then-piece}
use Rattle.cn_replace.proofs.numbers.put_counted.Goals as goal

pub returns-then-not-branch : goal.returns-then-not-branch
returns-then-not-branch g c =
    puts g.S.Sink.took _ _ _ _ _
    (counted_is _ _ _ _ _ c.split_end.ensures.before c.split_end.ensures.end)
    (none-first g.S.Sink.took _ _ _ _ _ _ c.if-not-branch.true c.in_ok-put_read.ensures)

pub returns : goal.returns
returns g c =
    puts g.S.Sink.took _ _ _ _ _
    (counted_is _ _ _ _ _ c.split_end.ensures.before c.split_end.ensures.end)
    (then-piece g.S.Sink.took g.met.S.Sink.took_both _ _ _ _ _ _ c.if-not-branch.false
    c.in_ok-put_read.ensures c.in_ok-put_same.ensures)
