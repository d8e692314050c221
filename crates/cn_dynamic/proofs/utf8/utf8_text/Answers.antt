use Rattle.std.proofs.Common.{sym, ◌∙◌}
use Rattle.std.proofs.lemmas.Str.{IsUtf8-from_is_utf8}
use Rattle.cn_dynamic.proofs.utf8.utf8_text.Goals as goal

pub from_utf8_unchecked-requires : goal.from_utf8_unchecked-requires
from_utf8_unchecked-requires c =
    IsUtf8-from_is_utf8 c.args.bytes.now (sym c.are_utf8.ensures ∙ c.if-are_utf8.true)
