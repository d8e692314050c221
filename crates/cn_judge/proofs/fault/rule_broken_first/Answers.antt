use Rattle.cn_judge.proofs.WalkSteps.{digit-low}
use Rattle.cn_judge.proofs.fault.rule_broken_first.Goals as goal

pub rule_of_digit-requires : goal.rule_of_digit-requires
rule_of_digit-requires c =
    let mark = c.in-Some-Digit-default.ensures.parts in
    digit-low mark.0 _ (rw c.in-Some-Digit-default.field-0-0-is at mark.1)
