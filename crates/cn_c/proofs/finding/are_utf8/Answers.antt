use Rattle.std.proofs.Common.{rules}
use Rattle.std.proofs.lemmas.Str.{is_utf8-from_IsUtf8}
use Rattle.cn_c.proofs.finding.are_utf8.Goals as goal

pub returns-then-are_common : goal.returns-then-are_common
returns-then-are_common c = search (rules, is_utf8-from_IsUtf8)
