use Rattle.std.proofs.Common.{refl, sym, ◌∙◌, rules}
use Rattle.cn_find.specs.Spans.{span_of}
use Rattle.cn_replace.proofs.ChainsPut.{cut-before, looking_first, looking_more}
use Rattle.cn_replace.proofs.chains.is_held.Goals as goal

pub looking-init : goal.looking-init
looking-init g c = record {
  looking = looking_first _ _ _ (span_of c.args.first) _ c.requires (search rules)
      c.end-end.ensures (sym c.holds_others.ensures ∙ c.if-holds_others.false);
  utf8 = search rules;
}

pub next-requires : goal.next-requires
next-requires g c = c.looking.invariant.looking.cut.ends

pub is_joined_at-requires : goal.is_joined_at-requires
is_joined_at-requires g c =
    cut-before _ _ _ (span_of c.in-Some.next) c.looking.invariant.looking.cut c.in-Some.ensures.part

pub looking-preserved : goal.looking-preserved
looking-preserved g c = record {
  looking = looking_more _ _ _ _ _ _ c.looking.invariant.looking (span_of c.in-Some.next) _
      c.in-Some.ensures.first c.in-Some.ensures.part.parts (search rules) refl
      (sym c.is_joined_at.ensures ∙ c.if-not-is_joined_at.false)
      (sym c.holds_others-in-Some.ensures ∙ c.if-holds_others-2.false) _
      c.end-end-in-Some.ensures;
  utf8 = search rules;
}
