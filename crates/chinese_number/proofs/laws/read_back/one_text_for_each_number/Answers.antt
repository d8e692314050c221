use Rattle.std.proofs.Common.{encode_utf8_all, ap}
use Rattle.cn_core.specs.Printing.{naive_text, spelled_text}
use Rattle.chinese_number.proofs.PlainDigits.{same_from_digits}
use Rattle.chinese_number.proofs.Reading.{IsWhole-laws, same_from_text}
use Rattle.chinese_number.proofs.laws.read_back.one_text_for_each_number.Goals as goal

pub returns : goal.returns
returns g c =
    let laws = g.met.T.Whole in
    let kind = g.T.Whole.kind in
    let whole = IsWhole-laws kind g.T.Whole.SIGNED laws.signed_is laws.unsigned_from_zero
    laws.magnitude_fits in
    record {
      units = λ variant case method one second held_one held_second p q.
          (same_from_text kind method variant case one second whole held_one held_second p q, λ e. ap (λ number. encode_utf8_all (spelled_text variant case method number)) e);
      digits = λ variant case one second held_one held_second.
          (same_from_digits kind variant case one second whole held_one held_second, λ e. ap (λ number. encode_utf8_all (naive_text variant case number)) e);
    }
