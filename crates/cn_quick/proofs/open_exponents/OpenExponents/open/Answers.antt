use Rattle.std.proofs.Common.{◌≡◌, ◌<◌, length, ap, arith, rules}
use Rattle.cn_quick.specs.Private.Regular.{entry_at, no_entry}
use Rattle.cn_judge.proofs.Stacks.{length-stacked, stacked-push}
use Rattle.cn_quick.proofs.open_exponents.OpenExponents.open.Goals as goal

pub returns : goal.returns
returns c =
    let same = ap length c.self.view_is in
    let small : c.self.inside.len < 16 =
    omega (arith, c.requires, same, length-stacked entry_at no_entry c.self.inside.entries c.self.inside.len) in
    let full : length c.self.inside.entries ≡ 16 = search rules in
    rw (← c.self.view_is) (stacked-push entry_at no_entry c.self.inside.entries c.self.inside.len _
    (omega (arith, small, full)))
