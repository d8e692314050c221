use Rattle.std.proofs.Common.{length}
use denote.Shadow.{shadow}
use denote.Text.{Utf8}
use Rattle.cn_find.proofs.Amounts.{Passed}
use Rattle.cn_find.proofs.ranges.first_amount.Given as goal

abbrev pub invariant-passing : goal.invariant-passing
invariant-passing l = record {
  passed : Passed l.fn.text l.rest;
  utf8 : shadow (Utf8 l.rest);
}

abbrev pub decreases-passing : goal.decreases-passing
decreases-passing l = length l.rest
