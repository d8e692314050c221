use Rattle.cn_judge.specs.Marked.{marked}
use Rattle.cn_quick.proofs.RegularSteps.{judges-option}
use Rattle.cn_quick.proofs.quick.finish.Goals as goal

pub returns : goal.returns
returns c = λ method marks s.
    judges-option method marks _ _ _ _ _ (marked c.args.first) c.in_ok-digit.digit
    c.in_ok-add_digit.field-0 _ s
    (c.in_ok-digit.ensures.some marks s.rules s.after_digit) c.in_ok-add_digit.ensures
    c.add_section.ensures
