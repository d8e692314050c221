use Rattle.std.proofs.Common.{◌≡◌, chars, length}
use denote.Shadow.{shadow}
use denote.Text.{Utf8}
use Rattle.cn_find.specs.Expressions.{begins_fraction}
use Rattle.cn_find.proofs.expressions.begins_fraction.Given as goal

abbrev pub invariant-passing : goal.invariant-passing
invariant-passing l = record {
  same : begins_fraction l.fn.wanted (chars l.fn.after) ≡ begins_fraction l.fn.wanted (chars l.rest);
  utf8 : shadow (Utf8 l.rest);
}

abbrev pub decreases-passing : goal.decreases-passing
decreases-passing l = length l.rest
