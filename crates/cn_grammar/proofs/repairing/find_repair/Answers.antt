use Rattle.std.proofs.Common.{◌≡◌, ◌<◌, chars, true, false, is_some, ap, ◌∙◌, arith}
use Rattle.std.proofs.lemmas.Option.{IfSome_then}
use Rattle.cn_grammar.specs.Working.Changes.{Works}
use Rattle.cn_grammar.proofs.Changing.{first-works, reads-up-to, repair-is}
use Rattle.cn_grammar.proofs.repairing.find_repair.Goals as goal
use Rattle.cn_grammar.proofs.repairing.find_repair.Goals.{else-ends-via-then-ends+else-may_end, else-ends-via-else-ends}

pub first_working-requires-clause-up_to : goal.first_working-requires-clause-up_to
first_working-requires-clause-up_to g c =
    let few : c.read_on-read.result.count < 18446744073709551615 =
    omega (arith, c.read_on-read.ensures.short) in
    reads-up-to g.G.Grammar.is_form g.G.Grammar.machine c.states_read_the_forms.ensures (chars c.args.text.now)
    (chars c.read_on-read.result.rest.now) c.begin.result c.read_on-read.result.state
    c.read_on-read.result.count c.begin.ensures c.read_on-read.ensures.read.has
    (c.read_on-read.ensures.read.stops few)

pub returns : goal.returns
returns g c =
    let few : c.read_on-read.result.count < 18446744073709551615 =
    omega (arith, c.read_on-read.ensures.short) in
    let going : c.is_end-ends.result ≡ true → c.is_some-may_end.result ≡ false =
    elim c.else-ends.branch [
      | else-ends-via-then-ends+else-may_end w ↦ λ is. w.if-may_end.false
      | else-ends-via-else-ends w ↦ λ is. absurd (let no = w.if-ends.false in cc)
    ] in
    let works = first-works (Works g.G.Grammar.is_form g.G.Listed.characters
    (chars c.args.text.now) c.read_on-read.result.count c.is_end-ends.result) _
    c.first_working.result c.first_working.ensures in
    IfSome_then c.first_working.result works
    (λ hint works. repair-is g.G.Grammar.is_form g.G.Grammar.machine c.states_read_the_forms.ensures
    g.G.Listed.characters (chars c.args.text.now) (chars c.read_on-read.result.rest.now)
    c.begin.result c.read_on-read.result.state c.read_on-read.result.count c.is_end-ends.result
    c.is_some-may_end.result hint c.begin.ensures c.read_on-read.ensures.read.has
    (c.read_on-read.ensures.read.stops few) c.is_end-ends.ensures
    (c.is_some-may_end.ensures ∙ ap is_some c.end.ensures) going works)
