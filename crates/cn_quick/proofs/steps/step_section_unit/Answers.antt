use Rattle.cn_core.specs.Characters.{rank}
use Rattle.cn_quick.proofs.RegularSteps.{regular-small}
use Rattle.cn_quick.proofs.steps.step_section_unit.Goals as goal

pub returns : goal.returns
returns c = λ method marks units s small leaves.
    regular-small method marks units c.args.state.total c.args.state.sum (rank c.args.state.last)
    c.args.state.at_digit (rank c.args.unit) s
    c.if-not-extends_section.ensures small leaves
