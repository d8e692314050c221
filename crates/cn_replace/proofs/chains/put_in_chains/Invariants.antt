use Rattle.std.proofs.Common.{length}
use denote.Shadow.{shadow}
use denote.Text.{Utf8}
use Rattle.cn_replace.proofs.ChainsPut.{PutChains}
use Rattle.cn_replace.proofs.chains.put_in_chains.Given as goal

abbrev pub invariant-replacing : goal.invariant-replacing
invariant-replacing g l = record {
  put : PutChains g.S.Sink.took (g.R.Rewriting.new l.rewriting) (g.R.Rewriting.holds l.rewriting)
      (g.R.Rewriting.left l.rewriting) l.text l.fn.sink l.sink l.end l.held l.rest;
  utf8 : shadow (Utf8 l.rest);
}

abbrev pub decreases-replacing : goal.decreases-replacing
decreases-replacing g l = length (g.R.Rewriting.left l.rewriting l.text l.rest)
