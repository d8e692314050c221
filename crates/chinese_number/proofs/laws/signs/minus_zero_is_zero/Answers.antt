use Rattle.std.proofs.Common.{pos, Ok, ◌∙◌}
use Rattle.chinese_number.proofs.Reading.{Reads-only}
use Rattle.chinese_number.proofs.Signs.{Reads-minus_zero}
use Rattle.chinese_number.proofs.laws.signs.minus_zero_is_zero.Goals as goal

pub returns : goal.returns
returns g c = λ method bytes minus zero signed is none text answer.
    Reads-only g.T.Whole.kind method bytes answer (Ok (pos 0))
    (Reads-minus_zero g.T.Whole.kind method bytes minus zero (g.met.T.Whole.signed_is ∙ signed)
    g.met.T.Whole.holds_zero is none text)
