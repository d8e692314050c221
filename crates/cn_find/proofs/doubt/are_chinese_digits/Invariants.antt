use Rattle.std.proofs.Common.{◌≡◌, chars, length}
use denote.Shadow.{shadow}
use denote.Text.{Utf8}
use Rattle.cn_find.specs.Doubt.{are_chinese_digits}
use Rattle.cn_find.proofs.doubt.are_chinese_digits.Given as goal

abbrev pub invariant-looking : goal.invariant-looking
invariant-looking l = record {
  same : are_chinese_digits (chars l.fn.text) ≡ are_chinese_digits (chars l.rest);
  utf8 : shadow (Utf8 l.rest);
}

abbrev pub decreases-looking : goal.decreases-looking
decreases-looking l = length l.rest
