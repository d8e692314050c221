-- For each law with premises, values that meet all of them.
use Rattle.std.proofs.Common.{◌≡◌, ℕ, ◌-◌, ◌^◌, false, pos, negsuc, List, ◌++◌, codes, encode_utf8_all, Some, IsSome, inl, replicate, slice_get, refl, arith}
use Rattle.std.specs.Char.{encode_utf8}
use Rattle.std.specs.Fmt.{digits}
use Rattle.cn_core.specs.Characters.{digit_char, minus_char, unit_char}
use Rattle.cn_quantity.specs.declared.quantity.QuantityForm.TheVariants.{Percent}
use Rattle.cn_quantity.specs.Trimmed.{decimals_of, decimals_over}
use Rattle.cn_c.specs.declared.quantity.Quantity.{Quantity}
use Rattle.cn_c.specs.Amounts.{IsAmountPrinted}
use Rattle.cn_c.specs.Codes.{has_flag, named_ways, CN_ANY, CN_BRACKETED_SIGN, CN_DIGITS, CN_DONE, CN_TEN_THOUSAND}
use Rattle.cn_c.specs.Dates.{IsDatePrinted}
use Rattle.cn_c.specs.Halves.{AreHalves}
use Rattle.cn_c.specs.Prints.{IsPrinted}
use Rattle.cn_c.specs.Quantities.{method_of, quantity_of}
use Rattle.cn_c.specs.QuantityPrints.{IsFiguresPrinted, IsQuantityPrinted}
use Rattle.cn_c.specs.SignedAmounts.{IsSignedPrinted}

-- this many bytes, each 0: the buffer before a call, and the part of it that the call does not
-- change
abbrev room : ℕ → List ℕ
room bytes = replicate bytes 0

-- the bytes of a string
abbrev string : List ℕ → List ℕ
string characters = encode_utf8_all characters

-- -120 as an `i8`; 0 and 1 after the way are the codes of the traditional script and the lower case
printed_numbers_read_back : IsPrinted (2 ^ 64 - 120) (2 ^ 64 - 1) 5 CN_TEN_THOUSAND 0 1 (room 16)
    CN_DONE (string (codes "負一百二十") ++ room 1) 15
unfolding encode_utf8 digit_char minus_char unit_char
printed_numbers_read_back = (refl, refl, refl)

-- 2025 as a `u16`
printed_numbers_read_back_either_way-digits : IsPrinted 2025 0 1 CN_DIGITS 0 1 (room 16) CN_DONE
    (string (codes "二零二五") ++ room 4) 12
unfolding digits encode_utf8 digit_char
printed_numbers_read_back_either_way-digits = (refl, refl, refl)

-- 1,280,500 as a `u32`
printed_numbers_read_back_either_way-ten_thousand : IsPrinted 1280500 0 2 CN_TEN_THOUSAND 0 1
    (room 32) CN_DONE (string (codes "一百二十八萬零五百") ++ room 5) 27
unfolding encode_utf8 digit_char unit_char
printed_numbers_read_back_either_way-ten_thousand = (refl, refl, refl)

-- 10^12 as a `u64` in the simple script
printed_numbers_read_back_either_way-either : IsPrinted (10 ^ 12) 0 3 CN_ANY 1 1
    (room 16) CN_DONE (string (codes "一万亿") ++ room 7) 9
unfolding encode_utf8 digit_char unit_char
printed_numbers_read_back_either_way-either = (refl, refl, refl)

-- 314 over 100, as a decimal
abbrev quantity : Quantity
quantity = record {
  numerator = record { low = 314; high = 0 };
  denominator = record { low = 100; high = 0 };
  form = 1;
  char_index = 0;
  byte_index = 0;
}

printed_quantities_read_back-same : AreHalves quantity.numerator × AreHalves quantity.denominator
    × IsQuantityPrinted quantity CN_TEN_THOUSAND 0 1 (room 16) CN_DONE
    (string (codes "三點一四") ++ room 4) 12
unfolding decimals_over encode_utf8 digit_char unit_char
printed_quantities_read_back-same = (
  (omega arith, omega arith),
  (omega arith, omega arith),
  (refl, refl, refl),
)

printed_quantities_read_back-either : AreHalves quantity.numerator × AreHalves quantity.denominator
    × IsQuantityPrinted quantity CN_ANY 1 1 (room 16) CN_DONE
    (string (codes "三点一四") ++ room 4) 12
unfolding decimals_over encode_utf8 digit_char unit_char
printed_quantities_read_back-either = (
  (omega arith, omega arith),
  (omega arith, omega arith),
  (refl, refl, refl),
)

-- 1250 over 10000, as a percentage
abbrev percentage : Quantity
percentage = record {
  numerator = record { low = 1250; high = 0 };
  denominator = record { low = 10000; high = 0 };
  form = 2;
  char_index = 0;
  byte_index = 0;
}

printed_figures_read_back-utf8 : AreHalves percentage.numerator × AreHalves percentage.denominator
    × IsFiguresPrinted percentage (room 8) CN_DONE (codes "12.5%" ++ room 3) 5
unfolding decimals_over digits
printed_figures_read_back-utf8 = (
  (omega arith, omega arith),
  (omega arith, omega arith),
  (refl, refl, refl),
)

printed_figures_read_back-read : AreHalves percentage.numerator × AreHalves percentage.denominator
    × (quantity_of percentage
    ≡ Some (record { numerator = pos 1250; denominator = 10000; form = Percent }))
    × IsSome (decimals_of (record { numerator = pos 1250; denominator = 10000; form = Percent }))
    × IsSome (method_of (slice_get named_ways CN_TEN_THOUSAND))
    × IsFiguresPrinted percentage (room 8) CN_DONE (codes "12.5%" ++ room 3) 5
unfolding decimals_over digits
printed_figures_read_back-read = (
  (omega arith, omega arith),
  (omega arith, omega arith),
  refl,
  refl,
  refl,
  (refl, refl, refl),
)

-- 120.50 yuan in the simple script and the plain form
printed_amounts_read_back : IsAmountPrinted 12050 1 0 (room 32) CN_DONE
    (string (codes "壹佰贰拾元伍角整") ++ room 8) 24
unfolding encode_utf8 digit_char unit_char
printed_amounts_read_back = (refl, refl, refl)

-- the same amount below zero, with the sign in brackets and without them
printed_signed_amounts_read_back-typed : IsSignedPrinted (negsuc 12049) 1 8 (room 40) CN_DONE
    (string (codes "（负数）壹佰贰拾元伍角整") ++ room 4) 36
unfolding encode_utf8 digit_char minus_char unit_char
printed_signed_amounts_read_back-typed = (refl, refl, refl)

printed_signed_amounts_read_back-strict : (has_flag 0 CN_BRACKETED_SIGN ≡ false)
    × IsSignedPrinted (negsuc 12049) 1 0 (room 32) CN_DONE
    (string (codes "负壹佰贰拾元伍角整") ++ room 5) 27
unfolding encode_utf8 digit_char minus_char unit_char
printed_signed_amounts_read_back-strict = (refl, (refl, refl, refl))

printed_dates_read_back : IsDatePrinted 2026 10 20 1 (room 48) CN_DONE
    (string (codes "贰零贰陆年零壹拾月零贰拾日") ++ room 9) 39
unfolding encode_utf8 digit_char unit_char
printed_dates_read_back = inl (
  (omega arith, omega arith, omega arith, omega arith, omega arith, omega arith),
  (refl, refl, refl),
)
