use Rattle.std.proofs.Common.{drop, refl, ap, ◌∙◌, rules}
use Rattle.cn_find.specs.Spans.{span_of}
use Rattle.cn_replace.proofs.ChainsPut.{chains_more, chains_none}
use Rattle.cn_replace.proofs.chains.put_in_chains.Goals as goal

pub replacing-init : goal.replacing-init
replacing-init g c = record {
  put = chains_none g.S.Sink.took g.met.S.Sink.took_both _ _ _ _ _ c.utf8.text
      (g.met.S.Sink.took_none c.args.sink.now);
  utf8 = search rules;
}

pub replacing-preserved : goal.replacing-preserved
replacing-preserved g c = record {
  put = chains_more g.S.Sink.took g.met.S.Sink.took_both _ _ _ _ _ _ _ _ _ c.replacing.invariant.put
      (span_of c.in-Some.found) _ c.in-Some.ensures.first c.in-Some.ensures.part.parts (search rules)
      refl _ _ _ _ _ c.held_on-held.ensures
      (c.split_at.ensures.back ∙ ap (λ n. drop n c.in-Some.found.before.now) c.unwrap_or.ensures)
      c.in_ok-put.ensures c.in_ok-put_unless.ensures c.end.ensures;
  utf8 = search rules;
}
