use Rattle.std.proofs.Common.{rules, sym, ◌∙◌}
use Rattle.cn_phrase.proofs.Between.{Ends-next, units-next}
use Rattle.cn_phrase.proofs.range.units_of.Goals as goal

pub passing-preserved : goal.passing-preserved
passing-preserved c = record {
  utf8 = search rules;
  same = c.passing.invariant.same
      ∙ units-next _ _ _ c.in-Some.ensures.parts (sym c.all.ensures ∙ c.if-all.false);
  ends = Ends-next _ _ _ _ c.passing.invariant.ends c.in-Some.ensures.parts;
}
