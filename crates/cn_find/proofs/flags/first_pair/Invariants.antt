use Rattle.std.proofs.Common.{◌≡◌, chars, length}
use denote.Shadow.{shadow}
use denote.Text.{Utf8}
use Rattle.cn_find.specs.Flags.{pairs}
use Rattle.cn_find.proofs.flags.first_pair.Given as goal

abbrev pub invariant-looking : goal.invariant-looking
invariant-looking l = record {
  same : pairs (chars l.fn.text) ≡ pairs (chars l.rest);
  utf8 : shadow (Utf8 l.rest);
}

abbrev pub decreases-looking : goal.decreases-looking
decreases-looking l = length l.rest
