use Rattle.std.proofs.Common.{◌<◌, [], chars, Some, sym, ap, arith}
use Rattle.cn_grammar.proofs.Changing.{fails, read-whole, reads-repaired}
use Rattle.cn_grammar.proofs.ReadingOn.{reached-on}
use Rattle.cn_grammar.proofs.repairing.read_repaired.Goals as goal

pub returns-in_err-state : goal.returns-in_err-state
returns-in_err-state g c =
    let at = read-whole g.G.Grammar.is_form g.G.Grammar.machine c.states_read_the_forms.ensures
    (chars c.args.text.now) (chars c.read_on-before.result.rest.now) c.begin.result
    c.read_on-before.result.state c.args.hint.char_index c.read_on-before.result.count
    c.begin.ensures c.read_on-before.ensures.read c.requires.place c.requires.begins in
    rw c.from_residual.ensures
    (fails g.G.Grammar.is_form g.G.Grammar.machine c.states_read_the_forms.ensures (chars c.args.text.now)
    (chars c.read_on-before.result.rest.now) c.args.hint c.begin.result
    c.read_on-before.result.state c.read_on-before.result.count c.begin.ensures
    c.read_on-before.ensures.read.has at c.in_err-state.ensures.read)

pub read_on-after-requires : goal.read_on-after-requires
read_on-after-requires g c =
    reached-on g.G.Grammar.machine _ c.in_ok-state.state _ _ _
    (reached-on g.G.Grammar.machine c.begin.result c.read_on-before.result.state _ _ _
    ([], ap Some (sym c.begin.ensures)) c.read_on-before.ensures.read.has)
    c.in_ok-state.ensures.read.has

pub returns : goal.returns
returns g c =
    let at = read-whole g.G.Grammar.is_form g.G.Grammar.machine c.states_read_the_forms.ensures
    (chars c.args.text.now) (chars c.read_on-before.result.rest.now) c.begin.result
    c.read_on-before.result.state c.args.hint.char_index c.read_on-before.result.count
    c.begin.ensures c.read_on-before.ensures.read c.requires.place c.requires.begins in
    let few : c.read_on-after.result.count < 18446744073709551615 =
    omega (arith, c.read_on-after.ensures.short) in
    let all = reads-repaired g.G.Grammar.machine (chars c.args.text.now)
    (chars c.read_on-before.result.rest.now) (chars c.in_ok-state.rest.now)
    (chars c.read_on-after.result.rest.now) c.args.hint c.begin.result
    c.read_on-before.result.state c.in_ok-state.state c.read_on-after.result.state
    c.read_on-before.result.count c.read_on-after.result.count c.begin.ensures
    c.read_on-before.ensures.read.has at c.in_ok-state.ensures.read
    c.read_on-after.ensures.read.has (c.read_on-after.ensures.read.stops few) in
    rw c.added.ensures all
