use Rattle.std.proofs.Common.{refl, chars, true, false, is_some, ap, subst, ◌∙◌}
use Rattle.std.proofs.lemmas.List.{take-take}
use Rattle.cn_grammar.specs.Answers.{Begins}
use Rattle.cn_grammar.specs.Working.Changes.{goes_on}
use Rattle.cn_grammar.proofs.Changing.{decided-end, decided-on, no-change, no-form, works-whole}
use Rattle.cn_grammar.proofs.OneAnswer.{begins-take}
use Rattle.cn_grammar.proofs.repairing.works.Goals as goal

pub read_repaired-requires-clause-begins : goal.read_repaired-requires-clause-begins
read_repaired-requires-clause-begins g c =
    subst (Begins g.G.Grammar.is_form)
    (take-take c.args.hint.char_index c.args.fault (chars c.args.text.now) c.if-hint-fault.false)
    (begins-take g.G.Grammar.is_form _ c.args.hint.char_index c.requires.up_to.begins)

pub returns-in_default : goal.returns-in_default
returns-in_default g c =
    no-change g.G.Grammar.is_form g.G.Listed.characters (chars c.args.text.now) c.args.fault
    c.args.ends c.args.hint c.in_default.ensures

pub returns-then-not-ends : goal.returns-then-not-ends
returns-then-not-ends g c =
    rw c.if-not-ends.true
    (works-whole g.G.Grammar.is_form g.G.Grammar.machine c.states_read_the_forms.ensures g.G.Listed.characters
    (chars c.args.text.now) (chars c.in-Some.read.rest.now) c.args.fault false c.args.hint
    c.in-Some.read.state c.in-Some.read.count c.in-Some.ensures c.if-is_end.ensures
    c.if-hint-fault.false (λ is. absurd (cc)))

pub returns-else-not-ends : goal.returns-else-not-ends
returns-else-not-ends g c =
    decided-end g.G.Grammar.is_form g.G.Grammar.machine c.states_read_the_forms.ensures g.G.Listed.characters
    (chars c.args.text.now) (chars c.in-Some.read.rest.now) c.args.fault c.args.ends c.args.hint
    c.in-Some.read.state c.in-Some.read.count c.in-Some.ensures c.if-is_end.ensures c.if-not-ends.false
    c.if-hint-fault.false c.is_some.result (c.is_some.ensures ∙ ap is_some c.end.ensures)

pub returns-then-not-ends-2 : goal.returns-then-not-ends-2
returns-then-not-ends-2 g c =
    decided-on g.G.Grammar.is_form g.G.Grammar.machine c.states_read_the_forms.ensures g.G.Listed.characters
    (chars c.args.text.now) (chars c.in-Some.read.rest.now) c.args.fault c.args.ends c.args.hint
    c.in-Some.read.state c.in-Some.read.count c.in-Some.ensures c.if-is_end.ensures c.if-not-ends-2.true
    c.if-hint-fault.false c.goes_on.result (c.goes_on.ensures
    ∙ ap (λ past. goes_on g.G.Listed.characters c.in-Some.read.count past
    (chars c.in-Some.read.rest.now)) c.past.ensures)

pub returns-else-not-ends-2 : goal.returns-else-not-ends-2
returns-else-not-ends-2 g c =
    rw c.if-not-ends-2.false
    (no-form g.G.Grammar.is_form g.G.Grammar.machine c.states_read_the_forms.ensures g.G.Listed.characters
    (chars c.args.text.now) (chars c.in-Some.read.rest.now) c.args.fault true c.args.hint
    c.in-Some.read.state c.in-Some.read.count c.in-Some.ensures c.if-is_end.ensures refl)
