use Rattle.std.proofs.Common.{◌≡◌, length, rules}
use Rattle.cn_find.proofs.Marks.{only-known}
use Rattle.cn_find.proofs.flags.only_known.Goals as goal

pub returns-in_default : goal.returns-in_default
returns-in_default c =
    let known = c.in_ok-mark in
    let three : length c.args.text.now ≡ 3 = search rules in
    only-known _ _ _ c.utf8.text three known.ensures.shorter c.in_default.not-Other known.ensures.parts
