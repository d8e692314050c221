use Rattle.std.proofs.Common.{chars, ◌∙◌}
use Rattle.cn_dynamic.proofs.PlainTexts.{dark_plain}
use Rattle.cn_dynamic.proofs.either.is_plain.Goals as goal

pub returns : goal.returns
returns c = c.is_digits_and_white.ensures ∙ dark_plain (chars c.args.text.now)
