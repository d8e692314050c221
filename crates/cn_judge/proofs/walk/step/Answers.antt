use Rattle.std.proofs.Common.{sym, ap, ◌∙◌}
use Rattle.cn_core.specs.Text.{marks_of}
use Rattle.cn_judge.specs.Private.Walk.{fault_of}
use Rattle.cn_judge.proofs.WalkSteps.{digit-low, walked-digit, handed-on}
use Rattle.cn_judge.proofs.walk.step.Goals as goal

pub step_digit-requires : goal.step_digit-requires
step_digit-requires c = digit-low c.requires.0 _ (rw c.in-Digit.is at c.requires.2)

pub returns-in_ok-sum-in-Digit : goal.returns-in_ok-sum-in-Digit
returns-in_ok-sum-in-Digit c = λ ch walked is w.
    walked-digit c.args.method ch _ _ _ _ _ walked (rw c.in-Digit.is at is) w
    (c.in_ok-sum-in-Digit.ensures c.args.method walked _ w)

pub returns-in_err-sum-in-Digit : goal.returns-in_err-sum-in-Digit
returns-in_err-sum-in-Digit c = λ ch walked is w.
    handed-on _ _ _ _ c.from_residual.ensures
    (ap (λ m. fault_of c.args.method m (marks_of walked)) (sym (rw c.in-Digit.is at is))
    ∙ c.in_err-sum-in-Digit.ensures c.args.method walked _ w)
