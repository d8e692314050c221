use Rattle.std.proofs.Common.{◌∷◌, length}
use denote.Shadow.{shadow}
use denote.Text.{Utf8}
use Rattle.cn_find.specs.Spans.{span_of}
use Rattle.cn_replace.specs.Chains.{is_held}
use Rattle.cn_replace.proofs.ChainsPut.{Looking}
use Rattle.cn_replace.proofs.chains.is_held.Given as goal

abbrev pub invariant-looking : goal.invariant-looking
invariant-looking g l = record {
  looking : Looking (g.R.Rewriting.holds l.rewriting) (g.R.Rewriting.left l.rewriting) l.text
      (is_held (g.R.Rewriting.holds l.rewriting) (span_of l.fn.first
      ∷ g.R.Rewriting.left l.rewriting l.text l.fn.first.after.now)) l.end l.rest;
  utf8 : shadow (Utf8 l.rest);
}

abbrev pub decreases-looking : goal.decreases-looking
decreases-looking g l = length (g.R.Rewriting.left l.rewriting l.text l.rest)
