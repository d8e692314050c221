use Rattle.cn_judge.proofs.Endings.{has-tail}
use Rattle.cn_judge.proofs.Pieces.{text-last}
use Rattle.cn_judge.proofs.judge.split_tail.Goals as goal

pub returns-clause-tail : goal.returns-clause-tail
returns-clause-tail c =
    let last = c.in_ok-last.ensures.parts in
    let second = c.in_ok-second.ensures.parts in
    has-tail _ _ _ _ _ _ _ _ (text-last _ _ _ last.1) (text-last _ _ _ second.1) last.2 second.2
    c.in_ok-unit.ensures.0 c.in_ok-unit.ensures.1
