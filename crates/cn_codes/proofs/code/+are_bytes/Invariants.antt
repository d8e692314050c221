use Rattle.std.proofs.Common.{length}
use Rattle.cn_codes.proofs.code.+are_bytes.Given as goal

abbrev pub decreases-are_bytes : goal.decreases-are_bytes
decreases-are_bytes l = length l.groups.now
