use Rattle.std.proofs.Common.{◌≡◌, ◌^◌, ◌<◌, length}
use denote.Shadow.{shadow}
use denote.Text.{Utf8}
use Rattle.cn_core.specs.Text.{text_of}
use Rattle.cn_quantity.specs.Turns.{leading_number}
use Rattle.cn_quantity.proofs.turns.number_of.Given as goal

abbrev pub invariant-reading : goal.invariant-reading
invariant-reading l = record {
  same : leading_number l.number (text_of l.rest) ≡ leading_number 0 (text_of l.fn.text);
  fits : l.number < 2 ^ 128;
  utf8 : shadow (Utf8 l.rest);
}

abbrev pub decreases-reading : goal.decreases-reading
decreases-reading l = length l.rest
