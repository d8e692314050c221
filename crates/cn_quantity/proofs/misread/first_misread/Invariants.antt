use Rattle.std.proofs.Common.{length}
use denote.Shadow.{shadow}
use denote.Text.{Utf8}
use Rattle.cn_quantity.proofs.Misreads.{IsPassed}
use Rattle.cn_quantity.proofs.misread.first_misread.Given as goal

abbrev pub invariant-looking : goal.invariant-looking
invariant-looking l = record {
  passed : IsPassed l.fn.text l.rest l.before;
  utf8 : shadow (Utf8 l.rest);
}

abbrev pub decreases-looking : goal.decreases-looking
decreases-looking l = length l.rest
