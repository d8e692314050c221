use Rattle.std.proofs.Common.{length, ◌≤◌}
use denote.Shadow.{shadow}
use denote.Text.{Utf8}
use Rattle.cn_quantity.proofs.MixedTexts.{IsYouSought}
use Rattle.cn_quantity.proofs.mixed.split_you.Given as goal

abbrev pub invariant-seeking : goal.invariant-seeking
invariant-seeking l = record {
  sought : IsYouSought l.fn.text l.rest;
  within : length l.rest ≤ length l.fn.text;
  utf8 : shadow (Utf8 l.rest);
}

abbrev pub decreases-seeking : goal.decreases-seeking
decreases-seeking l = length l.rest
