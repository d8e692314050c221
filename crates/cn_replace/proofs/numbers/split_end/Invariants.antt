use Rattle.std.proofs.Common.{length}
use denote.Shadow.{shadow}
use denote.Text.{Utf8}
use Rattle.cn_replace.proofs.Passing.{Ending}
use Rattle.cn_replace.proofs.numbers.split_end.Given as goal

abbrev pub invariant-passing : goal.invariant-passing
invariant-passing l = record {
  passed : Ending l.fn.section l.rest;
  utf8 : shadow (Utf8 l.rest);
}

abbrev pub decreases-passing : goal.decreases-passing
decreases-passing l = length l.rest
