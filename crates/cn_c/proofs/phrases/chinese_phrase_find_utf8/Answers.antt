use Rattle.std.proofs.Common.{rules}
use Rattle.std.proofs.lemmas.Str.{is_utf8-from_IsUtf8}
use Rattle.cn_c.proofs.phrases.chinese_phrase_find_utf8.Goals as goal

pub returns : goal.returns
returns c = search (rules, is_utf8-from_IsUtf8)
