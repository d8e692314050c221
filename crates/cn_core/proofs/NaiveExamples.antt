-- Worked examples of plain digits, each proved by computing the definitions.
use Rattle.std.proofs.Common.{◌≡◌, ◌^◌, ◌-◌, List, ℕ, refl, codes, Ok, Err, encode_utf8_all, false, true, pos, negsuc}
use Rattle.std.specs.Str.{chars}
use Rattle.std.specs.Char.{encode_utf8}
use Rattle.std.specs.Fmt.{digits}
use Rattle.cn_core.specs.declared.script.ChineseVariant.TheVariants.{Traditional, Simple}
use Rattle.cn_core.specs.declared.case.ChineseCase.TheVariants.{Upper, Lower}
use Rattle.cn_core.specs.Characters.{digit_of, rank_of, sign_of, digit_char, minus_char}
use Rattle.cn_core.specs.Naive.{decimal_digits}
use Rattle.cn_core.specs.Refusal.{empty, incorrect_at, too_large, too_small}
use Rattle.cn_core.specs.Text.{text_of}
use Rattle.cn_core.specs.Reading.{naive_reading}
use Rattle.cn_core.specs.Whole.{unsigned_kind, signed_kind}
use Rattle.cn_core.specs.Printing.{signed_text}

-- a string by its bytes
abbrev string : List ℕ → List ℕ
string characters = encode_utf8_all characters

white_space : text_of (string (codes " 二 十\u{3000}十")) ≡ codes "二十十"
unfolding chars encode_utf8
white_space = refl

-- numbers that are written
lower_digits : signed_text Traditional Lower false (decimal_digits 1203) ≡ codes "一二零三"
unfolding digits digit_char
lower_digits = refl

upper_simple_digits : signed_text Simple Upper false (decimal_digits 9876543210)
    ≡ codes "玖捌柒陆伍肆叁贰壹零"
unfolding digits digit_char
upper_simple_digits = refl

minus_five : signed_text Simple Upper true (decimal_digits 5) ≡ codes "负伍"
unfolding digits digit_char minus_char
minus_five = refl

zero_is_written : signed_text Traditional Lower false (decimal_digits 0) ≡ codes "零"
unfolding digits digit_char
zero_is_written = refl

-- strings that are read
any_form_of_digits : naive_reading (unsigned_kind 128) (string (codes "零〇1兩")) ≡ Ok (pos 12)
unfolding chars encode_utf8 digit_of rank_of
any_form_of_digits = refl

greatest_is_read : naive_reading (unsigned_kind 128)
    (string (codes "340282366920938463463374607431768211455")) ≡ Ok (pos (2 ^ 128 - 1))
unfolding chars encode_utf8 digit_of rank_of
greatest_is_read = refl

one_more_is_too_large : naive_reading (unsigned_kind 128)
    (string (codes "340282366920938463463374607431768211456")) ≡ Err too_large
unfolding chars encode_utf8 digit_of rank_of
one_more_is_too_large = refl

least_is_read : naive_reading (signed_kind 128)
    (string (codes "負170141183460469231731687303715884105728")) ≡ Ok (negsuc (2 ^ 127 - 1))
unfolding chars encode_utf8 digit_of rank_of sign_of
least_is_read = refl

minus_zero : naive_reading (signed_kind 8) (string (codes "負零")) ≡ Ok (pos 0)
unfolding chars encode_utf8 digit_of rank_of sign_of
minus_zero = refl

below_the_least : naive_reading (signed_kind 16) (string (codes "負三二七六九")) ≡ Err too_small
unfolding chars encode_utf8 digit_of rank_of sign_of
below_the_least = refl

sign_alone : naive_reading (signed_kind 8) (string (codes "正")) ≡ Err empty
unfolding chars encode_utf8 digit_of rank_of sign_of
sign_alone = refl

second_sign : naive_reading (signed_kind 8) (string (codes "正正一")) ≡ Err (incorrect_at 1)
unfolding chars encode_utf8 digit_of rank_of sign_of
second_sign = refl

sign_for_unsigned : naive_reading (unsigned_kind 8) (string (codes "負一")) ≡ Err (incorrect_at 0)
unfolding chars encode_utf8 digit_of rank_of
sign_for_unsigned = refl

ten_is_no_digit : naive_reading (unsigned_kind 128) (string (codes "一十")) ≡ Err (incorrect_at 1)
unfolding chars encode_utf8 digit_of rank_of
ten_is_no_digit = refl

-- the range is checked last, but nothing is read after the number exceeds 128 bits
range_after_the_end : naive_reading (unsigned_kind 8) (string (codes "九九九x")) ≡ Err (incorrect_at 3)
unfolding chars encode_utf8 digit_of rank_of
range_after_the_end = refl

sign_counts : naive_reading (signed_kind 8) (string (codes "負九九九x")) ≡ Err (incorrect_at 4)
unfolding chars encode_utf8 digit_of rank_of sign_of
sign_counts = refl

past_128_bits_stops : naive_reading (signed_kind 8)
    (string (codes "負340282366920938463463374607431768211456x")) ≡ Err too_small
unfolding chars encode_utf8 digit_of rank_of sign_of
past_128_bits_stops = refl

-- white space counts in the index that a refusal reports
white_space_counts : naive_reading (unsigned_kind 128) (string (codes "零 一 十"))
    ≡ Err (incorrect_at 4)
unfolding chars encode_utf8 digit_of rank_of
white_space_counts = refl
