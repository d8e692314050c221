use Rattle.std.proofs.Common.{◌≡◌, ◌^◌, ◌<◌, length}
use denote.Shadow.{shadow}
use denote.Text.{Utf8}
use Rattle.cn_core.specs.Text.{text_of}
use Rattle.cn_quantity.specs.Digits.{read_on}
use Rattle.cn_quantity.proofs.digits.read_on.Given as goal

abbrev pub invariant-reading : goal.invariant-reading
invariant-reading l = record {
  same : read_on l.kind l.longer (text_of l.rest) ≡ read_on l.kind l.fn.number (text_of l.fn.text);
  fits : l.longer < 2 ^ 128;
  utf8 : shadow (Utf8 l.rest);
}

abbrev pub decreases-reading : goal.decreases-reading
decreases-reading l = length l.rest
