use Rattle.std.proofs.Common.{encode_utf8_all, Ok}
use Rattle.cn_core.specs.Printing.{spelled_text}
use Rattle.chinese_number.proofs.Reading.{IsWhole-laws, Reads-spelled, Reads-only}
use Rattle.chinese_number.proofs.laws.read_back.spellings_read_back.Goals as goal

pub returns : goal.returns
returns g c = λ variant case method number held printable answer.
    let laws = g.met.T.Whole in
    let whole = IsWhole-laws g.T.Whole.kind g.T.Whole.SIGNED laws.signed_is laws.unsigned_from_zero
    laws.magnitude_fits in
    Reads-only g.T.Whole.kind method (encode_utf8_all (spelled_text variant case method number)) answer (Ok number)
    (Reads-spelled g.T.Whole.kind method variant case number whole held printable)
