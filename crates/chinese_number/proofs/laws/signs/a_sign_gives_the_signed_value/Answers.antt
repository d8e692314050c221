use Rattle.std.proofs.Common.{Some, Ok, ◌∙◌}
use Rattle.cn_core.specs.Text.{marks_of}
use Rattle.cn_core.specs.Reading.{is_minus}
use Rattle.cn_core.specs.Whole.{signed_number}
use Rattle.cn_core.specs.Value.{numeral_value}
use Rattle.chinese_number.proofs.Reading.{IsWhole-laws, Reads-only}
use Rattle.chinese_number.proofs.Signs.{Reads-signed}
use Rattle.chinese_number.proofs.laws.signs.a_sign_gives_the_signed_value.Goals as goal

pub returns : goal.returns
returns g c = λ method bytes rest character sign signed text is numeral fits held answer.
    let laws = g.met.T.Whole in
    let whole = IsWhole-laws g.T.Whole.kind g.T.Whole.SIGNED laws.signed_is laws.unsigned_from_zero
    laws.magnitude_fits in
    Reads-only g.T.Whole.kind method bytes answer
    (Ok (signed_number (is_minus (Some sign)) (numeral_value method (marks_of rest))))
    (Reads-signed g.T.Whole.kind method bytes rest character sign whole
    (g.met.T.Whole.signed_is ∙ signed) text is numeral fits held)
