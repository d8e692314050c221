use Rattle.std.proofs.Common.{rules}
use Rattle.std.proofs.lemmas.Str.{IsUtf8-from_is_utf8}
use Rattle.cn_c.proofs.reading.read_uncommon.Goals as goal

pub chinese_number_read_utf8-requires : goal.chinese_number_read_utf8-requires
chinese_number_read_utf8-requires c = search (rules, IsUtf8-from_is_utf8)
