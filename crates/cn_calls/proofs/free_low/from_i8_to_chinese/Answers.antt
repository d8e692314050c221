-- The prover also finds this proof without this file. With the file it refuses a wrong edit sooner,
-- and not only when it reaches a limit.
use Rattle.std.proofs.Common.{rules}
use Rattle.cn_calls.proofs.free_low.from_i8_to_chinese.Goals as goal

pub returns : goal.returns
returns c = search rules
