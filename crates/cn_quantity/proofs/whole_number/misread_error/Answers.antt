use Rattle.std.proofs.Common.{ap, arith}
use Rattle.cn_core.specs.Refusal.{incorrect_at}
use Rattle.cn_quantity.proofs.WholeNumbers.{misread-index}
use Rattle.cn_quantity.proofs.whole_number.misread_error.Goals as goal

pub returns-in_default : goal.returns-in_default
returns-in_default c = λ bytes s. let some = s.from_is in let none = c.in_default.ensures.parts in cc

pub returns : goal.returns
returns c = λ bytes s.
    let there = misread-index bytes _ _ _ _ _ _ s c.in-Some.ensures.parts c.in-Some.ensures.dark in
    ap incorrect_at (omega (arith, there, c.count_chars.ensures.count))
