use Rattle.cn_find.specs.Expressions.{expression_rule}
use Rattle.cn_find.proofs.RunLaws.{found-is_run, run-is_found}
use Rattle.cn_find.proofs.laws.expressions_are_the_runs.Goals as goal

pub returns : goal.returns
returns c = λ bytes span. (
  found-is_run (expression_rule c.args.wanted) bytes span,
  run-is_found (expression_rule c.args.wanted) bytes span,
)
