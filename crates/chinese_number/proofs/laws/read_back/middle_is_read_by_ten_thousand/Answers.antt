use Rattle.std.proofs.Common.{encode_utf8_all, nat_abs, Ok}
use Rattle.cn_core.specs.declared.method.ChineseCountMethod.TheVariants.{Middle, TenThousand}
use Rattle.cn_core.specs.Printing.{spelled_text}
use Rattle.cn_spell.proofs.ReadByOther.{IsReadBy-middle}
use Rattle.chinese_number.proofs.Reading.{IsWhole-laws, Reads-by, Reads-only}
use Rattle.chinese_number.proofs.laws.read_back.middle_is_read_by_ten_thousand.Goals as goal

pub returns : goal.returns
returns g c = λ variant case number held small answer.
    let laws = g.met.T.Whole in
    let whole = IsWhole-laws g.T.Whole.kind g.T.Whole.SIGNED laws.signed_is laws.unsigned_from_zero
    laws.magnitude_fits in
    Reads-only g.T.Whole.kind TenThousand (encode_utf8_all (spelled_text variant case Middle number)) answer (Ok number)
    (Reads-by g.T.Whole.kind Middle TenThousand variant case number whole held (IsReadBy-middle (nat_abs number) small))
