use Rattle.std.proofs.Common.{arith, rules}
use Rattle.cn_quantity.proofs.Ends.{end-boundary, end-shorter, front-chars}
use Rattle.cn_quantity.proofs.pieces.before_end.Goals as goal

pub overflow_sub-text : goal.overflow_sub-text
overflow_sub-text c = omega (arith, end-shorter _ _ c.requires c.utf8.text c.utf8.end)

pub split_at-requires : goal.split_at-requires
split_at-requires c = end-boundary _ _ c.requires c.utf8.text c.utf8.end

pub returns-clause-parts : goal.returns-clause-parts
returns-clause-parts c = front-chars _ _ _ c.requires c.utf8.text c.utf8.end (search rules) (search rules)

pub returns-clause-sizes : goal.returns-clause-sizes
returns-clause-sizes c = omega (
  arith,
  c.split_at.ensures.front_len,
  end-shorter _ _ c.requires c.utf8.text c.utf8.end,
)
