use Rattle.chinese_number.proofs.Beginnings.{Reads-beginning, naive_reading-beginning}
use Rattle.chinese_number.proofs.Reading.{IsWhole-laws}
use Rattle.chinese_number.proofs.laws.read_back.beginnings_are_read.Goals as goal

pub returns : goal.returns
returns g c =
    let laws = g.met.T.Whole in
    let kind = g.T.Whole.kind in
    let whole = IsWhole-laws kind g.T.Whole.SIGNED laws.signed_is laws.unsigned_from_zero
    laws.magnitude_fits in
    record {
      units = λ variant case method number count held printable longer. Reads-beginning kind method variant case number count whole laws.holds_zero held printable longer;
      digits = λ variant case number count held longer. naive_reading-beginning kind variant case number count whole laws.holds_zero held longer;
    }
