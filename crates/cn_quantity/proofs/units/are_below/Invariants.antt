use Rattle.std.proofs.Common.{◌≡◌, length, Some}
use denote.Shadow.{shadow}
use denote.Text.{Utf8}
use Rattle.cn_core.specs.Characters.{rank}
use Rattle.cn_core.specs.Text.{text_of}
use Rattle.cn_quantity.specs.Units.{are_below}
use Rattle.cn_quantity.proofs.units.are_below.Given as goal

abbrev pub invariant-comparing : goal.invariant-comparing
invariant-comparing l = record {
  same : are_below (Some (rank l.greatest)) (text_of l.rest)
      ≡ are_below (Some (rank l.greatest)) (text_of l.fn.text);
  utf8 : shadow (Utf8 l.rest);
}

abbrev pub decreases-comparing : goal.decreases-comparing
decreases-comparing l = length l.rest
