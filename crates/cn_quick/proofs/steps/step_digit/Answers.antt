use Rattle.cn_core.specs.Characters.{rank}
use Rattle.cn_quick.proofs.RegularSteps.{regular-digit}
use Rattle.cn_quick.proofs.steps.step_digit.Goals as goal

pub returns : goal.returns
returns c = λ method marks units s.
    regular-digit method marks units c.args.state.total c.args.state.sum (rank c.args.state.last)
    c.args.state.at_digit c.args.value _ s
    c.if-not-separates_digits.ensures c.in_ok-add_digit.ensures
