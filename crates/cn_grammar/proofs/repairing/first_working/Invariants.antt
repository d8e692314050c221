use Rattle.std.proofs.Common.{take, chars, All, IfSome}
use Rattle.cn_grammar.specs.Working.Changes.{Works}
use Rattle.cn_grammar.proofs.repairing.first_working.Given as goal

abbrev pub invariant-loop-candidate : goal.invariant-loop-candidate
invariant-loop-candidate g l =
    All (λ hint. IfSome hint (λ h. ¬ Works g.G.Grammar.is_form g.G.Listed.characters
    (chars l.fn.text) l.fn.fault l.fn.ends h)) (take l.candidate-index l.candidates)
