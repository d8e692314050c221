use Rattle.cn_judge.proofs.Walking.{unit-dark}
use Rattle.cn_judge.proofs.naive.piece_of.Goals as goal

pub returns-in-Unit : goal.returns-in-Unit
returns-in-Unit c = let mark = rw c.in-Unit.is at c.requires
    in (unit-dark _ _ mark, λ value e. cc)
