use Rattle.std.proofs.Common.{◌≡◌, ◌+◌, ◌*◌, ◌/◌, ◌^◌, ◌<◌, ◌≤◌, List, ◌++◌, length}
use Rattle.cn_core.specs.declared.method.ChineseCountMethod.TheVariants.{Low}
use Rattle.cn_core.specs.Mark.{Mark}
use Rattle.cn_spell.proofs.Single.{so_far, below_of}
use Rattle.cn_spell.proofs.spell.put_above.Given as goal

abbrev pub invariant-loop-left : goal.invariant-loop-left
invariant-loop-left g l = record {
  split : l.left ≡ l.number / 10 ^ l.power;
  reach : 0 < l.power → 10 ^ l.power ≤ l.number;
  within : l.power < 16;
  below : l.below ≡ below_of l.number l.power;
  digit : l.below < 10;
  room : g.P.Pen.left l.pen + 3 * length (so_far Low l.number l.power) ≡ g.P.Pen.left l.fn.pen;
  setting : g.P.Pen.setting l.pen ≡ g.P.Pen.setting l.fn.pen;
  marks : (marks : List Mark) → g.P.Pen.has_put l.fn.pen marks
      → g.P.Pen.has_put l.pen (so_far Low l.number l.power ++ marks);
}

abbrev pub decreases-loop-left : goal.decreases-loop-left
decreases-loop-left g l = l.left
