use Rattle.cn_quantity.proofs.Ends.{IsEnd-end}
use Rattle.cn_quantity.proofs.quantity.after_below_zero.Goals as goal

pub returns-then-begins_number-clause-end : goal.returns-then-begins_number-clause-end
returns-then-begins_number-clause-end c =
    IsEnd-end _ _ _ c.in_ok-first.ensures.parts.end c.in_ok-second.ensures.parts.end
