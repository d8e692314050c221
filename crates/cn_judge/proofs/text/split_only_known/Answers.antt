use Rattle.std.proofs.Common.{◌≡◌, length, arith}
use Rattle.cn_judge.proofs.Walking.{only-back}
use Rattle.cn_judge.proofs.text.split_only_known.Goals as goal

pub returns-clause-parts : goal.returns-clause-parts
returns-clause-parts c =
    let parts = c.in_ok-mark.ensures.parts in
    let none : length c.in_ok-mark.after.now ≡ 0 =
    omega (arith, c.in_ok-mark.ensures.shorter, c.if-text-gt3.false) in
    (parts.0, only-back _ _ parts.0 parts.1 none, parts.2, parts.3)
