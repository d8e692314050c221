use Rattle.std.proofs.Common.{◌≡◌, chars, length}
use Rattle.std.specs.List.{list_any}
use denote.Shadow.{shadow}
use denote.Text.{Utf8}
use Rattle.cn_replace.proofs.pieces.any.Given as goal

abbrev pub invariant-looking : goal.invariant-looking
invariant-looking g l = record {
  same : list_any (g.T.CharTest.test l.test) (chars l.fn.text) ≡ list_any (g.T.CharTest.test l.test) (chars l.rest);
  utf8 : shadow (Utf8 l.rest);
}

abbrev pub decreases-looking : goal.decreases-looking
decreases-looking g l = length l.rest
