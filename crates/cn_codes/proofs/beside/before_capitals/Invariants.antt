use Rattle.std.proofs.Common.{◌≡◌, length}
use denote.Shadow.{shadow}
use denote.Text.{Utf8}
use Rattle.cn_find.specs.Spans.{in_front}
use Rattle.cn_replace.specs.Pieces.{after_leading}
use Rattle.cn_codes.specs.Beside.{is_capital}
use Rattle.cn_codes.proofs.beside.before_capitals.Given as goal

abbrev pub invariant-passing : goal.invariant-passing
invariant-passing l = record {
  same : after_leading is_capital (in_front l.fn.before)
      ≡ after_leading is_capital (in_front l.rest);
  utf8 : shadow (Utf8 l.rest);
}

abbrev pub decreases-passing : goal.decreases-passing
decreases-passing l = length (in_front l.rest)
