use Rattle.std.proofs.Common.{◌≡◌, chars, length}
use denote.Shadow.{shadow}
use denote.Text.{Utf8}
use Rattle.cn_find.specs.Number.{is_plain}
use Rattle.cn_find.proofs.flags.is_plain.Given as goal

abbrev pub invariant-looking : goal.invariant-looking
invariant-looking l = record {
  same : is_plain (chars l.fn.text) ≡ is_plain (chars l.rest);
  utf8 : shadow (Utf8 l.rest);
}

abbrev pub decreases-looking : goal.decreases-looking
decreases-looking l = length l.rest
