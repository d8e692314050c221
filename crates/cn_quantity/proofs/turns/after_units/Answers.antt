use Rattle.std.proofs.Common.{arith, rules}
use Rattle.std.proofs.lemmas.Grind.{common_steps}
use Rattle.cn_quantity.proofs.Ends.{IsEnd-all, IsEnd-end}
use Rattle.cn_quantity.proofs.turns.after_units.Goals as goal

pub rising-init : goal.rising-init
rising-init c = record { same = search rules; end = IsEnd-all _; utf8 = search rules }

pub rising-preserved : goal.rising-preserved
rising-preserved c = record {
  same = grind (arith, common_steps);
  end = IsEnd-end _ _ _ c.rising.invariant.end c.in-Some.ensures.parts.end;
  utf8 = search rules;
}
