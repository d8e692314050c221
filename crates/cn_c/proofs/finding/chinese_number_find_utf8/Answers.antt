use Rattle.std.proofs.Common.{rules}
use Rattle.std.proofs.lemmas.Str.{is_utf8-from_IsUtf8}
use Rattle.cn_c.proofs.Filling.{nothing-found}
use Rattle.cn_c.proofs.finding.chinese_number_find_utf8.Goals as goal

pub returns-then-from-text : goal.returns-then-from-text
returns-then-from-text c = search (rules, is_utf8-from_IsUtf8, nothing-found)

pub returns : goal.returns
returns c = search (rules, is_utf8-from_IsUtf8)
