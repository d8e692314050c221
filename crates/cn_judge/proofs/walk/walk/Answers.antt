use Rattle.std.proofs.Common.{◌+◌, ap}
use Rattle.cn_judge.proofs.WalkSteps.{HasWalked-past, HasWalked-wrong}
use Rattle.cn_judge.proofs.walk.walk.Goals as goal

pub returns-in-Err-TooLarge : goal.returns-in-Err-TooLarge
returns-in-Err-TooLarge c =
    let ends = c.in-Some.ensures.parts in
    HasWalked-past c.args.method _ _ _ _ _ _ _ _ c.walking.invariant.walked ends.1
    (λ walked w. rw c.in-Err-TooLarge.field-0-is at (c.in-Err-TooLarge.ensures ends.0 walked ends.2
    w))

pub returns-in-Err-Incorrect : goal.returns-in-Err-Incorrect
returns-in-Err-Incorrect c =
    let ends = c.in-Some.ensures.parts in
    HasWalked-wrong c.args.method _ _ _ _ _ _ _ _ _ c.walking.invariant.walked ends.1
    (λ walked w. rw c.in-Err-Incorrect.field-0-is at (c.in-Err-Incorrect.ensures ends.0 walked
    ends.2 w))
    (ap (λ n. c.args.skipped + n) c.count_chars.ensures.count)
