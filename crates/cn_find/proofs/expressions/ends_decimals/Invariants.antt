use Rattle.std.proofs.Common.{◌≡◌, length}
use denote.Shadow.{shadow}
use denote.Text.{Utf8}
use Rattle.cn_find.specs.Expressions.{ends_decimals}
use Rattle.cn_find.specs.Spans.{in_front}
use Rattle.cn_find.proofs.expressions.ends_decimals.Given as goal

abbrev pub invariant-passing : goal.invariant-passing
invariant-passing l = record {
  same : ends_decimals (in_front l.fn.before) ≡ ends_decimals (in_front l.rest);
  utf8 : shadow (Utf8 l.rest);
}

abbrev pub decreases-passing : goal.decreases-passing
decreases-passing l = length l.rest
