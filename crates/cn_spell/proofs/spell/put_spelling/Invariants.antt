use Rattle.std.proofs.Common.{◌≡◌, ◌+◌, ◌*◌, ◌%◌, ◌^◌, ◌≤◌, length}
use Rattle.cn_core.proofs.Cuts.{part}
use Rattle.cn_spell.proofs.Walks.{Fills}
use Rattle.cn_spell.proofs.spell.put_spelling.Given as goal

abbrev pub invariant-loop-index : goal.invariant-loop-index
invariant-loop-index g l = record {
  fills : Fills l.filled (l.sections.number % 10 ^ (4 * l.index));
  under : l.filled ≤ 4 * l.index;
  room : g.P.Pen.left l.pen + 3 * length (part l.method (l.sections.number % 10 ^ (4 * l.index)))
      ≡ g.P.Pen.left l.fn.pen;
  setting : g.P.Pen.setting l.pen ≡ g.P.Pen.setting l.fn.pen;
  marks : g.P.Pen.has_put l.pen (part l.method (l.sections.number % 10 ^ (4 * l.index)));
}
