use Rattle.std.proofs.Common.{sym, ◌∙◌, arith, rules}
use Rattle.cn_grammar.proofs.ReadingOn.{reached-on, read-more}
use Rattle.cn_grammar.proofs.partial.read_on.Goals as goal

pub step-requires : goal.step-requires
step-requires g c =
    reached-on g.G.Grammar.machine c.args.state c.reading.state _ _ _ c.requires
    c.reading.invariant.has

pub reading-preserved : goal.reading-preserved
reading-preserved g c = record {
  has = read-more g.G.Grammar.machine c.args.state c.reading.state c.in-Some-step.next _ _
      _ c.reading.count c.in-Some.character c.reading.invariant.has
      c.in-Some.ensures.parts (sym c.step.ensures ∙ c.in-Some-step.is);
  within = omega (arith, c.reading.invariant.within, c.in-Some.ensures.shorter);
  most = omega (arith, c.reading-test.true);
  utf8 = search rules;
}
