use Rattle.std.proofs.Common.{Some, ap, sym, ◌∙◌}
use Rattle.cn_judge.specs.Answer.{answer_of, refusal_of}
use Rattle.cn_quantity.specs.declared.fault.QuantityFault.TheVariants.{Numeral}
use Rattle.cn_quantity.specs.Reason.{is_later}
use Rattle.cn_quantity.proofs.Faults.{misread-alone, misread-later, numeral-later}
use Rattle.cn_quantity.proofs.fault.refused_fault.Goals as goal

pub returns-in_default : goal.returns-in_default
returns-in_default c = λ s.
    misread-alone c.args.text.now _ c.in_default.field-0 _ _
    (ap (answer_of (λ n. n)) (sym c.in_default.is) ∙ c.judge_reader.ensures)

pub returns-then-is_later : goal.returns-then-is_later
returns-then-is_later c = λ s.
    ap (λ reason. Some (Numeral reason)) c.reason_of.ensures
    ∙ numeral-later c.args.method c.args.text.now _ (refusal_of c.in-Err.error) _
    (ap (answer_of (λ n. n)) (sym c.in-Err.is) ∙ c.judge_reader.ensures)
    (ap (is_later (refusal_of c.in-Err.error)) (sym (c.misread_error.ensures c.args.text.now s))
    ∙ sym c.is_later.ensures ∙ c.if-is_later.true)

pub returns-else-is_later : goal.returns-else-is_later
returns-else-is_later c = λ s.
    misread-later c.args.method c.args.text.now _ (refusal_of c.in-Err.error) _
    (ap (answer_of (λ n. n)) (sym c.in-Err.is) ∙ c.judge_reader.ensures)
    (ap (is_later (refusal_of c.in-Err.error)) (sym (c.misread_error.ensures c.args.text.now s))
    ∙ sym c.is_later.ensures ∙ c.if-is_later.false)
