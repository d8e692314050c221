use Rattle.std.proofs.Common.{◌≡◌, ◌+◌, ◌≤◌, length}
use denote.Shadow.{shadow}
use denote.Text.{Utf8}
use Rattle.cn_core.specs.Text.{text_of}
use Rattle.cn_quantity.specs.Digits.{leading_digits, after_digits}
use Rattle.cn_quantity.proofs.digits.split_digits.Given as goal

abbrev pub invariant-counting : goal.invariant-counting
invariant-counting l = record {
  count : l.count + leading_digits l.kind (text_of l.rest)
      ≡ leading_digits l.kind (text_of l.fn.text);
  after : after_digits l.kind (text_of l.rest) ≡ after_digits l.kind (text_of l.fn.text);
  within : l.count + length l.rest ≤ length l.fn.text;
  utf8 : shadow (Utf8 l.rest);
}

abbrev pub decreases-counting : goal.decreases-counting
decreases-counting l = length l.rest
