use Rattle.std.proofs.Common.{◌≤◌, length}
use denote.Shadow.{shadow}
use denote.Text.{Utf8}
use Rattle.cn_phrase.proofs.ItemsFound.{Skipping}
use Rattle.cn_phrase.proofs.items.next_item.Given as goal

abbrev pub invariant-searching : goal.invariant-searching
invariant-searching l = record {
  skipped : Skipping l.fn.wanted l.fn.whole l.fn.rest l.ahead;
  utf8 : shadow (Utf8 l.ahead);
  within : length l.ahead ≤ length l.fn.rest;
}

abbrev pub decreases-searching : goal.decreases-searching
decreases-searching l = length l.ahead
