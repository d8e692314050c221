use Rattle.std.proofs.Common.{◌≡◌, length}
use denote.Shadow.{shadow}
use denote.Text.{Utf8}
use Rattle.cn_core.specs.Characters.{rank}
use Rattle.cn_core.specs.Text.{text_of}
use Rattle.cn_quantity.specs.Units.{are_rising}
use Rattle.cn_quantity.proofs.units.are_rising_units.Given as goal

abbrev pub invariant-rising : goal.invariant-rising
invariant-rising l = record {
  same : are_rising (rank l.least) (text_of l.rest) ≡ are_rising 1 (text_of l.fn.text);
  utf8 : shadow (Utf8 l.rest);
}

abbrev pub decreases-rising : goal.decreases-rising
decreases-rising l = length l.rest
