use Rattle.std.proofs.Common.{length}
use denote.Shadow.{shadow}
use denote.Text.{Utf8}
use Rattle.cn_quantity.proofs.Points.{IsSought}
use Rattle.cn_quantity.proofs.decimal.split_point.Given as goal

abbrev pub invariant-seeking : goal.invariant-seeking
invariant-seeking l = record {
  sought : IsSought l.fn.text l.rest;
  utf8 : shadow (Utf8 l.rest);
}

abbrev pub decreases-seeking : goal.decreases-seeking
decreases-seeking l = length l.rest
