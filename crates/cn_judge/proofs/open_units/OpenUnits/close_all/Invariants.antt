use Rattle.std.proofs.Common.{◌≡◌, ◌<◌, ◌^◌, IsTrue, length}
use Rattle.cn_judge.specs.Private.Stack.{total_sum, all_positive}
use Rattle.cn_judge.proofs.open_units.OpenUnits.close_all.Given as goal

abbrev pub invariant-closing : goal.invariant-closing
invariant-closing l = record {
  sum : total_sum l.closed l.self ≡ total_sum l.fn.sum l.fn.self;
  positive : IsTrue (all_positive l.self);
  fits : l.closed < 2 ^ 128;
}

abbrev pub decreases-closing : goal.decreases-closing
decreases-closing l = length l.self
