use Rattle.std.proofs.Common.{ap, subst}
use Rattle.std.proofs.lemmas.Result.{on_ok_weaker}
use Rattle.cn_find.specs.Expressions.{expression_rule}
use Rattle.cn_find.proofs.Runs.{all-left}
use Rattle.cn_replace.specs.Chains.{in_chains}
use Rattle.cn_replace.specs.InFigures.{figures_for, holds_others, in_figures}
use Rattle.cn_replace.proofs.quantities.put_quantities.Goals as goal

pub returns : goal.returns
unfolding in_figures
returns g c = on_ok_weaker c.put_in_chains.result
    (subst (g.S.Sink.took c.args.sink.now _)
    (ap (in_chains (figures_for c.args.replacement.method c.args.replacement.figures)
    (holds_others c.args.replacement.method c.args.replacement.figures) c.args.text.now)
    (all-left (expression_rule c.args.wanted) c.args.text.now)))
    c.put_in_chains.ensures
