use Rattle.std.proofs.Common.{◌≡◌, ◌<◌, ◌^◌, IsTrue, length}
use Rattle.cn_core.specs.Characters.{rank}
use Rattle.cn_judge.specs.Private.Stack.{closed_sum, still_open, all_positive}
use Rattle.cn_judge.proofs.open_units.OpenUnits.close_below.Given as goal

abbrev pub invariant-closing : goal.invariant-closing
invariant-closing l = record {
  sum : closed_sum (rank l.unit) l.closed l.self ≡ closed_sum (rank l.unit) l.fn.sum l.fn.self;
  left : still_open (rank l.unit) l.self ≡ still_open (rank l.unit) l.fn.self;
  positive : IsTrue (all_positive l.self);
  fits : l.closed < 2 ^ 128;
}

abbrev pub decreases-closing : goal.decreases-closing
decreases-closing l = length l.self
