use Rattle.std.proofs.Common.{rules}
use Rattle.cn_find.specs.Expressions.{expression_rule}
use Rattle.cn_find.proofs.RunLaws.{spans-rise}
use Rattle.cn_find.proofs.laws.expressions_come_in_order.Goals as goal

pub returns : goal.returns
returns c = λ bytes. let e = spans-rise (expression_rule c.args.wanted) bytes in search (rules, e)
