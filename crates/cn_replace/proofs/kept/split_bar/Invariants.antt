use Rattle.std.proofs.Common.{length}
use denote.Shadow.{shadow}
use denote.Text.{Utf8}
use Rattle.cn_quantity.specs.Ratio.{after_bar, before_bar}
use Rattle.cn_replace.proofs.Passing.{Passing}
use Rattle.cn_replace.proofs.kept.split_bar.Given as goal

abbrev pub invariant-looking : goal.invariant-looking
invariant-looking l = record {
  passed : Passing before_bar after_bar l.fn.text l.rest;
  utf8 : shadow (Utf8 l.rest);
}

abbrev pub decreases-looking : goal.decreases-looking
decreases-looking l = length l.rest
