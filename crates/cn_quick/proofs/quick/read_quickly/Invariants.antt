use Rattle.std.proofs.Common.{length}
use denote.Shadow.{shadow}
use denote.Text.{Utf8}
use Rattle.cn_quick.proofs.RegularSteps.{HasStepped}
use Rattle.cn_quick.proofs.quick.read_quickly.Given as goal

abbrev pub invariant-walking : goal.invariant-walking
invariant-walking l = record {
  stepped : HasStepped l.method l.fn.text l.ahead l.units l.state;
  utf8 : shadow (Utf8 l.ahead);
}

abbrev pub decreases-walking : goal.decreases-walking
decreases-walking l = length l.ahead
