use Rattle.std.proofs.Common.{arith}
use Rattle.cn_lines.proofs.Fields.{value_after-beyond}
use Rattle.cn_lines.proofs.question.longer_value.Goals as goal

pub returns-in_default-clause-none : goal.returns-in_default-clause-none
returns-in_default-clause-none c =
    λ _. value_after-beyond c.args.start c.args.digits.now c.loop-digit.digit-index
    c.loop-digit.value _ c.loop-digit-test.true
    c.loop-digit.invariant.1 (omega (arith, c.in_default.ensures))
