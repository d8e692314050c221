use Rattle.std.proofs.Common.{◌≡◌, chars, length}
use denote.Shadow.{shadow}
use denote.Text.{Utf8}
use Rattle.cn_find.specs.Doubt.{has_point}
use Rattle.cn_find.proofs.doubt.has_point.Given as goal

abbrev pub invariant-looking : goal.invariant-looking
invariant-looking l = record {
  same : has_point (chars l.fn.text) ≡ has_point (chars l.rest);
  utf8 : shadow (Utf8 l.rest);
}

abbrev pub decreases-looking : goal.decreases-looking
decreases-looking l = length l.rest
