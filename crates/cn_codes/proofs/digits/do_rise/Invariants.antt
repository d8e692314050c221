use Rattle.std.proofs.Common.{◌≡◌, chars, length}
use denote.Shadow.{shadow}
use denote.Text.{Utf8}
use Rattle.cn_codes.specs.Digits.{rise_from}
use Rattle.cn_codes.proofs.digits.do_rise.Given as goal

abbrev pub invariant-looking : goal.invariant-looking
invariant-looking l = record {
  same : rise_from 0 (chars l.fn.digits) ≡ rise_from l.least (chars l.rest);
  utf8 : shadow (Utf8 l.rest);
}

abbrev pub decreases-looking : goal.decreases-looking
decreases-looking l = length l.rest
