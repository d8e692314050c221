use Rattle.std.proofs.Common.{◌≡◌, false, length}
use denote.Shadow.{shadow}
use denote.Text.{Utf8}
use Rattle.cn_core.specs.Text.{text_of}
use Rattle.cn_quantity.specs.declared.characters.DigitKind.TheVariants.{Figure}
use Rattle.cn_quantity.specs.Digits.{begins_with_digit}
use Rattle.cn_quantity.specs.Figures.{after_whole, are_groups, groups_of}
use Rattle.cn_quantity.proofs.FigureGroups.{go_on, more_groups}
use Rattle.cn_quantity.proofs.figures.after_whole.Given as goal

abbrev pub invariant-grouping : goal.invariant-grouping
invariant-grouping l = record {
  same : go_on l.leads (more_groups (text_of l.rest)) ≡ are_groups (groups_of (text_of l.fn.text));
  after : after_whole (text_of l.rest) ≡ after_whole (text_of l.fn.text);
  bare : begins_with_digit Figure (text_of l.rest) ≡ false;
  utf8 : shadow (Utf8 l.rest);
}

abbrev pub decreases-grouping : goal.decreases-grouping
decreases-grouping l = length l.rest
