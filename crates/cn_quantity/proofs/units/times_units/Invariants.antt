use Rattle.std.proofs.Common.{◌≡◌, ◌^◌, ◌<◌, length}
use denote.Shadow.{shadow}
use denote.Text.{Utf8}
use Rattle.cn_core.specs.Text.{text_of}
use Rattle.cn_quantity.specs.Units.{times_units}
use Rattle.cn_quantity.proofs.units.times_units.Given as goal

abbrev pub invariant-multiplying : goal.invariant-multiplying
invariant-multiplying l = record {
  same : times_units l.method l.product (text_of l.rest)
      ≡ times_units l.method l.fn.number (text_of l.fn.text);
  fits : l.product < 2 ^ 128;
  utf8 : shadow (Utf8 l.rest);
}

abbrev pub decreases-multiplying : goal.decreases-multiplying
decreases-multiplying l = length l.rest
