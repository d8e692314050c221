use Rattle.cn_spell.proofs.NaiveTexts.{plain-fits}
use Rattle.cn_spell.proofs.naive.Plain.of.Goals as goal
use Rattle.std.proofs.Common.{arith}

pub returns-clause-most : goal.returns-clause-most
returns-clause-most c =
    let a = c.args in
    rw c.of.ensures.number (plain-fits a.characters.variant a.characters.case a.negative a.magnitude (omega arith))
