use Rattle.std.proofs.Common.{Some, ap, sym, ◌∙◌}
use Rattle.cn_judge.specs.Answer.{answer_of, refusal_of}
use Rattle.cn_quantity.specs.declared.fault.QuantityFault.TheVariants.{Numeral}
use Rattle.cn_quantity.proofs.Faults.{numeral-fault}
use Rattle.cn_quantity.proofs.fault.numeral_fault.Goals as goal

pub returns-in-Err : goal.returns-in-Err
returns-in-Err c = λ answer h.
    ap (λ reason. Some (Numeral reason)) c.reason_of.ensures
    ∙ numeral-fault c.args.text.now (refusal_of c.in-Err.error) answer
    (ap (answer_of (λ n. n)) (sym c.in-Err.is) ∙ h)
