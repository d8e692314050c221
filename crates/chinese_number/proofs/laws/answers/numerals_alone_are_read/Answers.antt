use Rattle.chinese_number.proofs.Numerals.{Reads-number, Reads-numeral}
use Rattle.chinese_number.proofs.Reading.{IsWhole-laws}
use Rattle.chinese_number.proofs.laws.answers.numerals_alone_are_read.Goals as goal

pub returns : goal.returns
returns g c = λ method bytes number.
    let laws = g.met.T.Whole in
    let whole = IsWhole-laws g.T.Whole.kind g.T.Whole.SIGNED laws.signed_is laws.unsigned_from_zero
    laws.magnitude_fits in (
      Reads-number g.T.Whole.kind method bytes number,
      Reads-numeral g.T.Whole.kind method bytes number whole,
    )
