use Rattle.std.proofs.Common.{◌≤◌, length}
use denote.Shadow.{shadow}
use denote.Text.{Utf8}
use Rattle.cn_find.proofs.Runs.{Skipping}
use Rattle.cn_find.proofs.run.next_run.Given as goal

abbrev pub invariant-searching : goal.invariant-searching
invariant-searching g l = record {
  skipped : Skipping (g.R.SearchRule.rule l.rule) l.whole l.fn.rest l.ahead;
  utf8 : shadow (Utf8 l.ahead);
  within : length l.ahead ≤ length l.fn.rest;
}

abbrev pub decreases-searching : goal.decreases-searching
decreases-searching g l = length l.ahead
