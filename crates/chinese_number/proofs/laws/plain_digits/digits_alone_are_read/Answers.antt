use Rattle.chinese_number.proofs.PlainDigits.{naive_reading-number, naive_reading-digits}
use Rattle.chinese_number.proofs.Reading.{IsWhole-laws}
use Rattle.chinese_number.proofs.laws.plain_digits.digits_alone_are_read.Goals as goal

pub returns : goal.returns
returns g c = λ bytes number.
    let laws = g.met.T.Whole in
    let whole = IsWhole-laws g.T.Whole.kind g.T.Whole.SIGNED laws.signed_is laws.unsigned_from_zero
    laws.magnitude_fits in (
      naive_reading-number g.T.Whole.kind bytes number,
      naive_reading-digits g.T.Whole.kind bytes number whole,
    )
