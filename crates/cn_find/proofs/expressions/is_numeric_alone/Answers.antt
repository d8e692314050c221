use Rattle.std.proofs.Common.{ap, ◌∙◌}
use Rattle.std.proofs.lemmas.Str.{chars-nil}
use Rattle.cn_find.specs.Expressions.{is_numeric}
use Rattle.cn_find.proofs.expressions.is_numeric_alone.Goals as goal

pub returns : goal.returns
returns c = c.is_numeric.ensures ∙ ap (is_numeric c.args.wanted c.args.c) chars-nil
