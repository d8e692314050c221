-- The prover also finds this proof without this file. With the file it refuses a wrong edit sooner,
-- and not only when it reaches a limit.
use Rattle.std.proofs.Common.{rules}
use Rattle.cn_calls.proofs.unit_readers.from_chinese_to_u8.Goals as goal

pub returns : goal.returns
returns c = search rules
