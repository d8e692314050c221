use Rattle.std.proofs.Common.{◌≡◌, length}
use denote.Shadow.{shadow}
use denote.Text.{Utf8}
use Rattle.cn_core.specs.Text.{text_of}
use Rattle.cn_quantity.specs.WholeNumber.{is_plain}
use Rattle.cn_quantity.proofs.whole_number.is_plain.Given as goal

abbrev pub invariant-looking : goal.invariant-looking
invariant-looking l = record {
  same : is_plain (text_of l.rest) ≡ is_plain (text_of l.fn.text);
  utf8 : shadow (Utf8 l.rest);
}

abbrev pub decreases-looking : goal.decreases-looking
decreases-looking l = length l.rest
