use Rattle.std.proofs.Common.{◌≡◌, length}
use denote.Shadow.{shadow}
use denote.Text.{Utf8}
use Rattle.cn_core.specs.Characters.{rank}
use Rattle.cn_core.specs.Text.{text_of}
use Rattle.cn_quantity.specs.Private.{IsEnd}
use Rattle.cn_quantity.specs.Turns.{after_units}
use Rattle.cn_quantity.proofs.turns.after_units.Given as goal

abbrev pub invariant-rising : goal.invariant-rising
invariant-rising l = record {
  same : after_units (rank l.least) (text_of l.rest) ≡ after_units 1 (text_of l.fn.text);
  end : IsEnd l.fn.text l.rest;
  utf8 : shadow (Utf8 l.rest);
}

abbrev pub decreases-rising : goal.decreases-rising
decreases-rising l = length l.rest
