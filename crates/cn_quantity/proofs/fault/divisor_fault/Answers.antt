use Rattle.std.proofs.Common.{Some, ap, sym, ◌∙◌}
use Rattle.std.specs.Option.{option_or}
use Rattle.cn_judge.specs.Answer.{answer_of, refusal_of}
use Rattle.cn_quantity.specs.declared.fault.QuantityFault.TheVariants.{Denominator}
use Rattle.cn_quantity.proofs.Faults.{fault-placed, fault-placeless, no-fault}
use Rattle.cn_quantity.proofs.fault.divisor_fault.Goals as goal

pub returns-in_default : goal.returns-in_default
returns-in_default c =
    no-fault 0 c.args.text.now c.in_default.field-0 _ _
    (ap (answer_of (λ d. d)) (sym c.in_default.is) ∙ c.judge_divisor.ensures.answer)

pub returns-in-Some : goal.returns-in-Some
returns-in-Some c =
    fault-placeless 0 c.args.text.now (refusal_of c.in-Err.error) _ _ _
    (ap (answer_of (λ d. d)) (sym c.in-Err.is) ∙ c.judge_divisor.ensures.answer)
    (sym c.in-Some.is ∙ c.placeless_fault.ensures)

pub returns-in-Some-part_fault : goal.returns-in-Some-part_fault
returns-in-Some-part_fault c =
    fault-placed 0 c.args.text.now (refusal_of c.in-Err.error) _ _ _
    (ap (answer_of (λ d. d)) (sym c.in-Err.is) ∙ c.judge_divisor.ensures.answer)
    (sym c.in_default-placeless_fault.is ∙ c.placeless_fault.ensures)
    (ap (λ first. option_or first (Some Denominator)) (sym c.in-Some-part_fault.is ∙ c.part_fault.ensures))

pub returns-in-None : goal.returns-in-None
returns-in-None c =
    fault-placed 0 c.args.text.now (refusal_of c.in-Err.error) _ _ _
    (ap (answer_of (λ d. d)) (sym c.in-Err.is) ∙ c.judge_divisor.ensures.answer)
    (sym c.in_default-placeless_fault.is ∙ c.placeless_fault.ensures)
    (ap (λ first. option_or first (Some Denominator)) (sym c.in-None.is ∙ c.part_fault.ensures))
