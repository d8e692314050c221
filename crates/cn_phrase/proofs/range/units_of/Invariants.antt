use Rattle.std.proofs.Common.{◌≡◌, chars, length}
use denote.Text.{Utf8}
use denote.Shadow.{shadow}
use Rattle.cn_phrase.specs.Ranges.{units_of}
use Rattle.cn_phrase.specs.Suffix.{EndsWith}
use Rattle.cn_phrase.proofs.range.units_of.Given as goal

abbrev pub invariant-passing : goal.invariant-passing
invariant-passing l = record {
  utf8 : shadow (Utf8 l.rest);
  same : units_of (chars l.text) ≡ units_of (chars l.rest);
  ends : EndsWith (chars l.text) (chars l.rest);
}

abbrev pub decreases-passing : goal.decreases-passing
decreases-passing l = length l.rest
