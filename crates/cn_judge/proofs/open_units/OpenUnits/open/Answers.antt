use Rattle.std.proofs.Common.{◌≡◌, ◌<◌, length, ap, arith, rules}
use Rattle.cn_judge.specs.Private.Stack.{no_unit, opened_at}
use Rattle.cn_judge.proofs.Stacks.{length-stacked, scales-set, stacked-push}
use Rattle.cn_judge.proofs.open_units.OpenUnits.open.Goals as goal

pub returns : goal.returns
returns c =
    let same = ap length c.self.view_is in
    let small : c.self.inside.len < 16 =
    omega (arith, c.requires.room, same, length-stacked opened_at no_unit c.self.inside.entries c.self.inside.len) in
    let full : length c.self.inside.entries ≡ 16 = search rules in
    rw (← c.self.view_is) (stacked-push opened_at no_unit c.self.inside.entries c.self.inside.len _
    (omega (arith, small, full)))

pub invariant_of-self : goal.invariant_of-self
invariant_of-self c =
    let same = ap length c.self.view_is in (
      omega (
        arith,
        c.requires.room,
        same,
        length-stacked opened_at no_unit c.self.inside.entries c.self.inside.len,
      ),
      scales-set c.self.inside.entries c.self.inside.len _ c.requires.fits c.self.invariant.1,
    )
