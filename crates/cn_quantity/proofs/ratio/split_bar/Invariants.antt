use Rattle.std.proofs.Common.{length}
use denote.Shadow.{shadow}
use denote.Text.{Utf8}
use Rattle.cn_quantity.proofs.Bars.{IsBarSought}
use Rattle.cn_quantity.proofs.ratio.split_bar.Given as goal

abbrev pub invariant-seeking : goal.invariant-seeking
invariant-seeking l = record {
  sought : IsBarSought l.fn.text l.rest;
  utf8 : shadow (Utf8 l.rest);
}

abbrev pub decreases-seeking : goal.decreases-seeking
decreases-seeking l = length l.rest
