use Rattle.std.proofs.Common.{ap, refl, sym, ◌∙◌}
use Rattle.cn_judge.specs.Answer.{answer_of, refusal_of}
use Rattle.cn_quantity.proofs.Faults.{fault-placed, fault-placeless, no-fault, third-fault}
use Rattle.cn_quantity.proofs.fault.sum_fault.Goals as goal

pub returns-in_default-judge_sum : goal.returns-in_default-judge_sum
returns-in_default-judge_sum c = λ bytes s.
    third-fault _ _ _ _ (sym c.in_default.is ∙ c.units_fault.ensures)
    (sym c.in_default-units_fault.is ∙ c.units_fault-2.ensures)
    (no-fault 0 bytes c.in_default-judge_sum.field-0 _ _
    (ap (answer_of (λ n. n)) (sym c.in_default-judge_sum.is) ∙ c.judge_sum.ensures bytes s))

pub returns-in-Some-placeless_fault : goal.returns-in-Some-placeless_fault
returns-in-Some-placeless_fault c = λ bytes s.
    third-fault _ _ _ _ (sym c.in_default.is ∙ c.units_fault.ensures)
    (sym c.in_default-units_fault.is ∙ c.units_fault-2.ensures)
    (fault-placeless 0 bytes (refusal_of c.in-Err.error) _ _ _
    (ap (answer_of (λ n. n)) (sym c.in-Err.is) ∙ c.judge_sum.ensures bytes s)
    (sym c.in-Some-placeless_fault.is ∙ c.placeless_fault.ensures))

pub returns-in-None : goal.returns-in-None
returns-in-None c = λ bytes s.
    third-fault _ _ _ _ (sym c.in_default.is ∙ c.units_fault.ensures)
    (sym c.in_default-units_fault.is ∙ c.units_fault-2.ensures)
    (fault-placed 0 bytes (refusal_of c.in-Err.error) _ _ _
    (ap (answer_of (λ n. n)) (sym c.in-Err.is) ∙ c.judge_sum.ensures bytes s)
    (sym c.in-None.is ∙ c.placeless_fault.ensures) refl)
