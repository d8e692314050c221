use Rattle.cn_find.proofs.Amounts.{back_boundary}
use Rattle.cn_find.proofs.ranges.last_amount.Goals as goal

pub split_at-requires : goal.split_at-requires
split_at-requires c = back_boundary _ _ c.passing.invariant.passed
