use Rattle.std.proofs.Common.{sym, ◌∙◌}
use Rattle.cn_core.specs.Text.{text_of}
use Rattle.cn_quantity.specs.Number.{part_answer}
use Rattle.cn_quantity.proofs.Numbers.{divisor-empty, divisor-goes_on, divisor-none}
use Rattle.cn_quantity.proofs.Told.{err-told, told-stops}
use Rattle.cn_quantity.proofs.number.judge_divisor.Goals as goal

pub returns-in_default-clause-answer : goal.returns-in_default-clause-answer
returns-in_default-clause-answer c =
    divisor-empty c.args.method c.args.skipped c.args.text.now c.in_default.ensures.parts

pub returns-in_err-divisor-clause-answer : goal.returns-in_err-divisor-clause-answer
returns-in_err-divisor-clause-answer c =
    err-told (λ n. n) _ _ c.from_residual.ensures
    ∙ told-stops c.args.skipped c.args.text.now (part_answer c.args.method (text_of c.args.text.now))
    _ _ c.in_err-divisor.ensures

pub returns-then-is_divisor-clause-answer : goal.returns-then-is_divisor-clause-answer
returns-then-is_divisor-clause-answer c =
    divisor-goes_on c.args.method c.args.skipped c.args.text.now _ c.in_ok-divisor.ensures
    (sym c.is_divisor.ensures ∙ c.if-is_divisor.true)

pub returns-else-is_divisor-clause-answer : goal.returns-else-is_divisor-clause-answer
returns-else-is_divisor-clause-answer c =
    divisor-none c.args.method c.args.skipped _ _ c.args.text.now _ _ c.in-Some.ensures.parts
    c.in-Some.ensures.dark c.in_ok-divisor.ensures
    (sym c.is_divisor.ensures ∙ c.if-is_divisor.false)
