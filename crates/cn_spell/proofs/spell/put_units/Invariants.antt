use Rattle.std.proofs.Common.{◌≡◌, List, ◌++◌, drop}
use Rattle.cn_core.specs.Mark.{Mark}
use Rattle.cn_spell.specs.Working.Units.{units_behind, units_over}
use Rattle.cn_spell.proofs.Pens.{Wrote}
use Rattle.cn_spell.proofs.spell.put_units.Given as goal

abbrev pub invariant-loop-width : goal.invariant-loop-width
invariant-loop-width g l =
    (done : List Mark)
    × (units_behind l.method l.power l.filled
    ≡ units_over l.method l.power l.filled l.above (drop l.width-index l.width-items) ++ done)
    × Wrote (g.P.Pen.left l.fn.pen) (g.P.Pen.left l.pen) (g.P.Pen.setting l.fn.pen)
    (g.P.Pen.setting l.pen) (g.P.Pen.has_put l.fn.pen) (g.P.Pen.has_put l.pen) done
