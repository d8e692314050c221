use Rattle.std.proofs.Common.{nat_abs}
use Rattle.cn_core.proofs.ReadBack.{spelling-is_numeral}
use Rattle.cn_spell.proofs.SpelledMarks.{below_square}
use Rattle.chinese_number.proofs.laws.read_back.spellings_are_numerals.Goals as goal

pub returns : goal.returns
returns g c = λ method number held printable. spelling-is_numeral method (nat_abs number)
    (below_square method number (g.met.T.Whole.magnitude_fits number held) printable)
