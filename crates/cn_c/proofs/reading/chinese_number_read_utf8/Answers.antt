use Rattle.std.proofs.Common.{rules}
use Rattle.std.proofs.lemmas.Str.{is_utf8-from_IsUtf8}
use Rattle.cn_c.proofs.reading.chinese_number_read_utf8.Goals as goal

pub returns-in-By : goal.returns-in-By
returns-in-By c = search (rules, is_utf8-from_IsUtf8)

pub returns-in-Either : goal.returns-in-Either
returns-in-Either c = search (rules, is_utf8-from_IsUtf8)
