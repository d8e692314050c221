use Rattle.std.proofs.Common.{arith, rules}
use Rattle.cn_replace.proofs.Ends.{end-boundary, end-shorter, front-chars}
use Rattle.cn_replace.proofs.pieces.before_rest.Goals as goal

pub overflow_sub-text : goal.overflow_sub-text
overflow_sub-text c = omega (arith, end-shorter _ _ c.requires c.utf8.text c.utf8.rest)

pub split_at-requires : goal.split_at-requires
split_at-requires c = end-boundary _ _ c.requires c.utf8.text c.utf8.rest

pub returns : goal.returns
returns c = front-chars _ _ _ c.requires c.utf8.text c.utf8.rest (search rules) (search rules)
