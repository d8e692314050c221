use Rattle.std.proofs.Common.{arith}
use Rattle.cn_core.specs.Characters.{rank}
use Rattle.cn_core.proofs.Characters.{rank-low}
use Rattle.cn_quick.proofs.RegularSteps.{regular-closed, open-room}
use Rattle.cn_quick.proofs.steps.close_section.Goals as goal

pub open-requires : goal.open-requires
open-requires c =
    let s = c.requires.1 in
    let great = c.requires.2 in
    open-room c.args.method c.requires.0 _ (rank c.args.unit) s.regular (rank-low c.args.unit) great
    (c.makes_way.ensures c.args.method c.requires.0 s great c.if-not-makes_way.false)

pub returns : goal.returns
returns c = λ marks s leaves.
    let great = c.requires.2 in
    regular-closed c.args.method marks _ _ _ _ _ _ _ (rank c.args.unit) _ _ s
    great (rank-low c.args.unit) leaves c.in_ok-total.ensures.0
    (c.makes_way.ensures c.args.method marks s great c.if-not-makes_way.false)
    (omega (
      arith,
      c.in_ok-all.ensures,
      c.exponent.ensures,
      c.exponent-2.ensures,
    )) c.if-all-gt38.false c.open.ensures
