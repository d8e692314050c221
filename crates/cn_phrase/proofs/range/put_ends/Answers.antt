use Rattle.cn_replace.proofs.Texts.{and-after, none-first}
use Rattle.cn_phrase.proofs.range.put_ends.Goals as goal

pub returns-then-not-branch : goal.returns-then-not-branch
returns-then-not-branch g c =
    none-first g.S.Sink.took _ _ _ _ _ _ c.if-not-branch.true c.in_ok-put_low.ensures

pub returns : goal.returns
returns g c =
    and-after g.S.Sink.took g.met.S.Sink.took_both _ _ _ _ _ _ _ c.if-not-branch.false
    c.in_ok-put_low.ensures c.put_high.ensures
