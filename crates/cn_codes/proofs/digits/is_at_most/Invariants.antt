use Rattle.std.proofs.Common.{◌≡◌, ◌≤◌, chars, length}
use denote.Shadow.{shadow}
use denote.Text.{Utf8}
use Rattle.cn_codes.specs.Digits.{number_from, number_of}
use Rattle.cn_codes.proofs.digits.is_at_most.Given as goal

abbrev pub invariant-reading : goal.invariant-reading
invariant-reading l = record {
  same : number_of (chars l.fn.digits) ≡ number_from l.value (chars l.rest);
  small : l.value ≤ l.most;
  utf8 : shadow (Utf8 l.rest);
}

abbrev pub decreases-reading : goal.decreases-reading
decreases-reading l = length l.rest
