use Rattle.cn_quantity.proofs.Ends.{BeginsWith-at}
use Rattle.cn_quantity.proofs.pieces.split_first.Goals as goal

pub returns-clause-parts : goal.returns-clause-parts
returns-clause-parts c =
    BeginsWith-at _ _ _ _ c.in_ok-first.ensures.parts c.in_ok-first.ensures.dark
