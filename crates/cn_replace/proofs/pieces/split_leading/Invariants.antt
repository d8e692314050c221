use Rattle.std.proofs.Common.{length}
use denote.Shadow.{shadow}
use denote.Text.{Utf8}
use Rattle.cn_replace.specs.Pieces.{after_leading, leading}
use Rattle.cn_replace.proofs.Passing.{Passing}
use Rattle.cn_replace.proofs.pieces.split_leading.Given as goal

abbrev pub invariant-passing : goal.invariant-passing
invariant-passing g l = record {
  passed : Passing (leading (g.T.CharTest.test l.test)) (after_leading (g.T.CharTest.test l.test)) l.fn.text l.rest;
  utf8 : shadow (Utf8 l.rest);
}

abbrev pub decreases-passing : goal.decreases-passing
decreases-passing g l = length l.rest
