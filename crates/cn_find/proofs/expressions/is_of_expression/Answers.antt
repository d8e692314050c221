use Rattle.std.proofs.Common.{◌∙◌, sym, rules}
use Rattle.cn_find.proofs.Extra.{usual_belongs}
use Rattle.cn_find.proofs.expressions.is_of_expression.Goals as goal

pub returns-else-is_extra : goal.returns-else-is_extra
returns-else-is_extra c = c.belongs.ensures ∙ sym (usual_belongs _ _ _ _ (search rules))
