use Rattle.std.proofs.Common.{◌≡◌, chars, length}
use denote.Shadow.{shadow}
use denote.Text.{Utf8}
use Rattle.cn_find.specs.Doubt.{has_two_tens}
use Rattle.cn_find.proofs.doubt.has_two_tens.Given as goal

abbrev pub invariant-looking : goal.invariant-looking
invariant-looking l = record {
  same : has_two_tens (chars l.fn.text) ≡ has_two_tens (chars l.rest);
  utf8 : shadow (Utf8 l.rest);
}

abbrev pub decreases-looking : goal.decreases-looking
decreases-looking l = length l.rest
