use Rattle.std.proofs.Common.{sym, ◌∙◌}
use Rattle.cn_grammar.proofs.Changing.{reads-insert, reads-replace}
use Rattle.cn_grammar.proofs.repairing.change.Goals as goal

pub returns-in_ok-step-in-Insert-clause-read : goal.returns-in_ok-step-in-Insert-clause-read
returns-in_ok-step-in-Insert-clause-read g c =
    reads-insert g.G.Grammar.machine c.args.state _ _ c.args.repair c.in-Insert.character
    c.in-Insert.is (sym c.step.ensures ∙ c.in_ok-step-in-Insert.was)

pub returns-in_ok-step-in-Replace-clause-read : goal.returns-in_ok-step-in-Replace-clause-read
returns-in_ok-step-in-Replace-clause-read g c =
    reads-replace g.G.Grammar.machine c.args.state _ _ _ c.args.repair c.in-Replace.character _
    c.in-Replace.is c.in_ok-after-in-Replace.ensures.parts
    (sym c.step-in-Replace.ensures ∙ c.in_ok-step-in-Replace.was)
