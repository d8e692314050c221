use Rattle.std.proofs.Common.{◌≤◌, length}
use denote.Shadow.{shadow}
use denote.Text.{Utf8}
use Rattle.cn_codes.specs.CodesInText.{rest_here}
use Rattle.cn_codes.proofs.PartsFound.{Skipping}
use Rattle.cn_codes.proofs.with_codes.next_part.Given as goal

abbrev pub invariant-searching : goal.invariant-searching
invariant-searching l = record {
  skipped : Skipping (rest_here l.fn.wanted) l.fn.whole l.fn.rest l.ahead;
  utf8 : shadow (Utf8 l.ahead);
  within : length l.ahead ≤ length l.fn.rest;
}

abbrev pub decreases-searching : goal.decreases-searching
decreases-searching l = length l.ahead
