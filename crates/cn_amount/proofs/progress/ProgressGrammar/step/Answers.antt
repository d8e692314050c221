use Rattle.std.proofs.Common.{sym, ◌∙◌}
use Rattle.cn_amount.proofs.ReadText.{step-fits}
use Rattle.cn_amount.proofs.progress.ProgressGrammar.step.Goals as goal

pub add-requires : goal.add-requires
add-requires c =
    step-fits c.args.self c.in_ok-capital.capital c.in_ok-state.state c.args.character c.requires
    (sym c.capital_of.ensures ∙ c.in_ok-capital.was) (sym c.step.ensures ∙ c.in_ok-state.was)
