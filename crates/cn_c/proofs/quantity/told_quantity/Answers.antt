use Rattle.std.proofs.Common.{rules, true, false}
use Rattle.cn_c.proofs.quantity.told_quantity.Goals as goal

pub returns : goal.returns
returns c =
    let above = c.halves.ensures true c.of.ensures.held in
    let below = c.halves-2.ensures false c.of-2.ensures.held in
    search (rules, above, below)
