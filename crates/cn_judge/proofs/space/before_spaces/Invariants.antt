use Rattle.std.proofs.Common.{◌≤◌, length}
use denote.Shadow.{shadow}
use denote.Text.{Utf8}
use Rattle.cn_judge.specs.Private.Spaces.{EndsBlank}
use Rattle.cn_judge.proofs.space.before_spaces.Given as goal

abbrev pub invariant-skipping : goal.invariant-skipping
invariant-skipping l = record {
  blank : EndsBlank l.fn.text l.ahead;
  within : length l.ahead ≤ length l.fn.text;
  utf8 : shadow (Utf8 l.ahead);
}

abbrev pub decreases-skipping : goal.decreases-skipping
decreases-skipping l = length l.ahead
