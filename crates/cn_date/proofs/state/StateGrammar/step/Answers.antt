use Rattle.std.proofs.Common.{sym, ◌∙◌}
use Rattle.cn_date.proofs.ReadText.{has-part}
use Rattle.cn_date.proofs.Shows.{written-of}
use Rattle.cn_date.proofs.state.StateGrammar.step.Goals as goal

pub after-requires-clause-part : goal.after-requires-clause-part
after-requires-clause-part c = has-part c.args.self c.requires.0 c.requires.1

pub after-requires-clause-digit : goal.after-requires-clause-digit
after-requires-clause-digit c =
    written-of c.args.character _ (sym c.capital_of.ensures ∙ c.in_ok-capital_of.was)
