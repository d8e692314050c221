use Rattle.std.proofs.Common.{rules, sym}
use mir.Syntax.{w128}
use mir.Val.{Fits}
use Rattle.cn_quantity.proofs.Groups.{power-above}
use Rattle.cn_quantity.proofs.turns.fills.Goals as goal

pub returns-in-None : goal.returns-in-None
returns-in-None c =
    let small : Fits w128 c.args.turns.product = search rules in
    sym (power-above c.args.turns.product c.args.count c.in-None.ensures small.fits)
