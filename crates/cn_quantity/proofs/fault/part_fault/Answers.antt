use Rattle.std.proofs.Common.{ap, sym, ◌∙◌}
use Rattle.cn_judge.specs.Answer.{answer_of, refusal_of}
use Rattle.cn_quantity.proofs.Faults.{fault-placed, fault-placeless, no-fault}
use Rattle.cn_quantity.proofs.fault.part_fault.Goals as goal

pub returns-in_default : goal.returns-in_default
returns-in_default c =
    no-fault 0 c.args.text.now c.in_default.field-0 _ _
    (ap (answer_of (λ d. d)) (sym c.in_default.is) ∙ c.judge_part.ensures)

pub returns-in-Some : goal.returns-in-Some
returns-in-Some c =
    fault-placeless 0 c.args.text.now (refusal_of c.in-Err.error) _ _ _
    (ap (answer_of (λ d. d)) (sym c.in-Err.is) ∙ c.judge_part.ensures)
    (sym c.in-Some.is ∙ c.placeless_fault.ensures)

pub returns-in-None : goal.returns-in-None
returns-in-None c =
    fault-placed 0 c.args.text.now (refusal_of c.in-Err.error) _ _ _
    (ap (answer_of (λ d. d)) (sym c.in-Err.is) ∙ c.judge_part.ensures)
    (sym c.in-None.is ∙ c.placeless_fault.ensures) c.number_fault.ensures
