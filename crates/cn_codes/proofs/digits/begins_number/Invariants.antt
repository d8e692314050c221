use Rattle.std.proofs.Common.{◌≡◌, chars, length}
use denote.Shadow.{shadow}
use denote.Text.{Utf8}
use Rattle.cn_codes.specs.Digits.{begins_number}
use Rattle.cn_codes.proofs.digits.begins_number.Given as goal

abbrev pub invariant-comparing : goal.invariant-comparing
invariant-comparing l = record {
  same : begins_number (chars l.fn.number) (chars l.fn.run)
      ≡ begins_number (chars l.ahead) (chars l.rest);
  ahead_utf8 : shadow (Utf8 l.ahead);
  rest_utf8 : shadow (Utf8 l.rest);
}

abbrev pub decreases-comparing : goal.decreases-comparing
decreases-comparing l = length l.ahead
