-- For each law with premises, values that meet all of them.
use Rattle.std.proofs.Common.{◌≡◌, ◌<◌, pos, negsuc, codes, encode_utf8_all, Err, None, IsSome, refl, arith}
use Rattle.std.specs.Char.{encode_utf8}
use Rattle.std.specs.Str.{chars}
use Rattle.cn_core.specs.declared.method.ChineseCountMethod.TheVariants.{TenThousand}
use Rattle.cn_core.specs.Characters.{digit_of, rank_of, sign_of as numeral_sign}
use Rattle.cn_core.specs.FigureCharacters.{figure_of, tens_of}
use Rattle.cn_core.specs.Refusal.{incorrect_at}
use Rattle.cn_quantity.specs.Characters.{chinese_digit_of, is_fen, is_point, is_zhi, share_of, sign_of}
use Rattle.cn_quantity.specs.declared.quantity.Quantity.{Quantity}
use Rattle.cn_quantity.specs.declared.quantity.QuantityForm.TheVariants.{Fraction, Percent}
use Rattle.cn_quantity.specs.Reading.{quantity_answer}
use Rattle.cn_quantity.specs.Trimmed.{decimals_of, decimals_over}

-- at 点, with the sign and the white space counted
refusals_point_at_characters : quantity_answer TenThousand (encode_utf8_all (codes "负 一百二点五"))
    ≡ Err (incorrect_at 5)
unfolding chars encode_utf8 digit_of rank_of figure_of chinese_digit_of tens_of sign_of numeral_sign is_point
    is_fen is_zhi share_of
refusals_point_at_characters = refl

-- -12.50%
abbrev percentage : Quantity
percentage = record { numerator = negsuc 1249; denominator = 10000; form = Percent }

trimmed_keeps_the_value-above : 0 < percentage.denominator
trimmed_keeps_the_value-above = omega arith

trimmed_keeps_the_value-known : IsSome (decimals_of percentage)
unfolding decimals_over
trimmed_keeps_the_value-known = refl

trimmed_keeps_the_value-last : IsSome (decimals_of percentage)
unfolding decimals_over
trimmed_keeps_the_value-last = refl

-- 千分之五
trimmed_keeps_the_value-unknown :
    decimals_of (record { numerator = pos 5; denominator = 1000; form = Fraction }) ≡ None
trimmed_keeps_the_value-unknown = refl
