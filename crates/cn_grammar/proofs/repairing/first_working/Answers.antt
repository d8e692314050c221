use Rattle.std.proofs.Common.{chars, All, IfSome, subst}
use Rattle.std.proofs.lemmas.List.{take_all}
use Rattle.cn_grammar.specs.Working.Changes.{Works}
use Rattle.cn_grammar.proofs.Changing.{first-is}
use Rattle.cn_grammar.proofs.repairing.first_working.Goals as goal

pub returns-then-works : goal.returns-then-works
returns-then-works g c =
    first-is (Works g.G.Grammar.is_form g.G.Listed.characters (chars c.args.text.now) c.args.fault
    c.args.ends) c.args.candidates.now c.loop-candidate.candidate-index _ c.in-Some.hint
    c.loop-candidate-test.true c.in-Some.is c.if-works.ensures c.loop-candidate.invariant

pub returns : goal.returns
returns g c =
    subst (All (λ hint. IfSome hint (λ h. ¬ Works g.G.Grammar.is_form g.G.Listed.characters
    (chars c.args.text.now) c.args.fault c.args.ends h)))
    (take_all c.loop-candidate.candidate-index c.args.candidates.now c.loop-candidate-test.false)
    c.loop-candidate.invariant
