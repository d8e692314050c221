use Rattle.std.proofs.Common.{◌≡◌, ◌+◌, ◌*◌, ◌/◌, ◌^◌, List, ◌++◌}
use Rattle.cn_core.specs.Mark.{Mark}
use Rattle.cn_spell.specs.Working.Sections.{lowest_marks}
use Rattle.cn_spell.proofs.naive.put_digits.Given as goal

abbrev pub invariant-loop : goal.invariant-loop
invariant-loop g l = record {
  split : l.left ≡ l.number / 10 ^ l.counter;
  room : g.P.Pen.left l.pen + 3 * l.counter ≡ g.P.Pen.left l.fn.pen;
  setting : g.P.Pen.setting l.pen ≡ g.P.Pen.setting l.fn.pen;
  marks : (marks : List Mark) → g.P.Pen.has_put l.fn.pen marks
      → g.P.Pen.has_put l.pen (lowest_marks l.counter l.number ++ marks);
}
