use Rattle.std.proofs.Common.{◌≤◌, length}
use denote.Shadow.{shadow}
use denote.Text.{Utf8}
use Rattle.cn_judge.proofs.WalkSteps.{HasWalked}
use Rattle.cn_judge.proofs.walk.walk.Given as goal

abbrev pub invariant-walking : goal.invariant-walking
invariant-walking l = record {
  walked : HasWalked l.method l.fn.text l.ahead l.state.sum l.units l.state.next;
  within : length l.ahead ≤ length l.fn.text;
  utf8 : shadow (Utf8 l.ahead);
}

abbrev pub decreases-walking : goal.decreases-walking
decreases-walking l = length l.ahead
