use Rattle.chinese_number.proofs.PlainDigits.{naive_reading-signed_text}
use Rattle.chinese_number.proofs.Reading.{IsWhole-laws}
use Rattle.chinese_number.proofs.laws.plain_digits.naive_texts_read_back.Goals as goal

pub returns : goal.returns
returns g c = λ variant case number held.
    let laws = g.met.T.Whole in
    let whole = IsWhole-laws g.T.Whole.kind g.T.Whole.SIGNED laws.signed_is laws.unsigned_from_zero
    laws.magnitude_fits in
    naive_reading-signed_text g.T.Whole.kind variant case number whole held
