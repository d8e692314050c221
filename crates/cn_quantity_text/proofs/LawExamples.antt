-- For each law that has premises, values that meet all of them.
use Rattle.std.proofs.Common.{◌+◌, ◌^◌, ◌<◌, pos, refl, arith}
use Rattle.std.specs.Prelude.{IsSome, IsTrue}
use Rattle.cn_core.specs.declared.method.ChineseCountMethod.TheVariants.{TenThousand}
use Rattle.cn_core.specs.Printing.{is_printable}
use Rattle.cn_core.specs.Whole.{holds, signed_kind}
use Rattle.cn_quantity.specs.declared.quantity.Quantity.{Quantity}
use Rattle.cn_quantity.specs.declared.quantity.QuantityForm.TheVariants.{Decimal, Fraction, Percent}
use Rattle.cn_quantity.specs.Trimmed.{decimals_of, decimals_over}
use Rattle.cn_quantity_text.specs.Numerals.{greatest_spelled}
use Rattle.cn_quantity_text.specs.Writes.{IsWritten}

-- 三點一四
abbrev decimal : Quantity
decimal = record { numerator = pos 314; denominator = 100; form = Decimal }

what_is_written_is_read_back : IsTrue (holds (signed_kind 128) decimal.numerator)
    × (decimal.denominator < 2 ^ 128) × IsWritten TenThousand decimal
unfolding decimals_over
what_is_written_is_read_back = (refl, omega arith, (omega arith, refl))

-- 10^12 over 10^15 + 1
abbrev fraction : Quantity
fraction = record { numerator = pos (10 ^ 12); denominator = 10 ^ 15 + 1; form = Fraction }

middle_is_read_by_ten_thousand : IsTrue (holds (signed_kind 128) fraction.numerator)
    × (0 < fraction.denominator) × (fraction.denominator < 2 ^ 128)
    × (greatest_spelled fraction < 10 ^ 16)
unfolding decimals_over
middle_is_read_by_ten_thousand = (refl, omega arith, omega arith, omega arith)

-- 12.50%
abbrev percentage : Quantity
percentage = record { numerator = pos 1250; denominator = 10000; form = Percent }

figures_are_read_back : IsTrue (holds (signed_kind 128) percentage.numerator)
    × (percentage.denominator < 2 ^ 128) × IsSome (decimals_of percentage)
unfolding decimals_over
figures_are_read_back = (refl, omega arith, refl)

-- 一億零一十萬
no_spelling_is_misread : (100100000 < 2 ^ 128) × IsTrue (is_printable TenThousand (pos 100100000))
no_spelling_is_misread = (omega arith, refl)
