use Rattle.std.proofs.Common.{arith}
use Rattle.cn_spell.proofs.Bounds.{spelled-fits}
use Rattle.cn_spell.proofs.spelled.Spelled.of.Goals as goal

pub returns-clause-fits : goal.returns-clause-fits
returns-clause-fits g c =
    let a = c.args in
    rw c.of.ensures.number (spelled-fits g.M.KnownMethod.stands_for a.characters.variant
    a.characters.case a.negative a.magnitude c.requires (omega arith))
