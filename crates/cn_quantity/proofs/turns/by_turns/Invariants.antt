use Rattle.std.proofs.Common.{length}
use denote.Shadow.{shadow}
use denote.Text.{Utf8}
use Rattle.cn_quantity.proofs.Groups.{IsTurning}
use Rattle.cn_quantity.proofs.turns.by_turns.Given as goal

abbrev pub invariant-turning : goal.invariant-turning
invariant-turning l = record {
  turning : IsTurning l.method l.fn.text l.turns l.rest;
  utf8 : shadow (Utf8 l.rest);
}

abbrev pub decreases-turning : goal.decreases-turning
decreases-turning l = length l.rest
