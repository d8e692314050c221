use Rattle.std.proofs.Common.{sym, ◌∙◌}
use Rattle.std.proofs.lemmas.Str.{is_utf8-from_IsUtf8}
use Rattle.cn_dynamic.proofs.utf8.are_utf8.Goals as goal

pub returns-then-are_common : goal.returns-then-are_common
returns-then-are_common c =
    let is = c.if-are_common.true in is ∙ sym (is_utf8-from_IsUtf8 _ (c.are_common.ensures is))
