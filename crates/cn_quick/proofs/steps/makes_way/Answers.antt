use Rattle.std.proofs.Common.{sym, ◌∙◌}
use Rattle.cn_core.specs.Characters.{rank}
use Rattle.cn_quick.proofs.RegularSteps.{may_open-digit}
use Rattle.cn_quick.proofs.steps.makes_way.Goals as goal

pub returns-then-state : goal.returns-then-state
returns-then-state c = λ method marks s great top.
    may_open-digit method marks _ _ _ _ _ _ (rank c.args.unit) s great c.if-state.true
    c.close_below.ensures (sym top ∙ c.is_below_top.ensures)
