-- Worked examples of spellings, each proved by computing the definitions.
use Rattle.std.proofs.Common.{◌≡◌, ◌+◌, ◌-◌, ◌^◌, refl, codes, pos, negsuc}
use Rattle.cn_core.specs.declared.method.ChineseCountMethod.TheVariants.{Low, TenThousand, Middle, High}
use Rattle.cn_core.specs.declared.script.ChineseVariant.TheVariants.{Traditional, Simple}
use Rattle.cn_core.specs.declared.case.ChineseCase.TheVariants.{Upper, Lower}
use Rattle.cn_core.specs.Characters.{digit_char, unit_char, minus_char}
use Rattle.cn_core.specs.Printing.{spelled_text}

zero : spelled_text Traditional Lower TenThousand (pos 0) ≡ codes "零"
unfolding digit_char unit_char minus_char
zero = refl

-- 一十 becomes 十 at the start, and stays 一十 elsewhere
ten : spelled_text Traditional Lower High (pos 10) ≡ codes "十"
unfolding digit_char unit_char minus_char
ten = refl

minus_ten : spelled_text Traditional Lower High (negsuc 9) ≡ codes "負十"
unfolding digit_char unit_char minus_char
minus_ten = refl

ten_inside : spelled_text Traditional Lower TenThousand (pos 110) ≡ codes "一百一十"
unfolding digit_char unit_char minus_char
ten_inside = refl

hundred_thousand : spelled_text Traditional Lower TenThousand (pos 100000) ≡ codes "十萬"
unfolding digit_char unit_char minus_char
hundred_thousand = refl

ten_ten_thousands_inside : spelled_text Traditional Lower TenThousand (pos 100100000)
    ≡ codes "一億零一十萬"
unfolding digit_char unit_char minus_char
ten_ten_thousands_inside = refl

upper_simple : spelled_text Simple Upper TenThousand (pos 123) ≡ codes "壹佰贰拾叁"
unfolding digit_char unit_char minus_char
upper_simple = refl

upper_traditional : spelled_text Traditional Upper TenThousand (pos 123) ≡ codes "壹佰貳拾參"
unfolding digit_char unit_char minus_char
upper_traditional = refl

nineteen_digits : spelled_text Traditional Lower TenThousand (pos 1234567890123456789)
    ≡ codes "一百二十三京四千五百六十七兆八千九百零一億二千三百四十五萬六千七百八十九"
unfolding digit_char unit_char minus_char
nineteen_digits = refl

greatest_of_low : spelled_text Traditional Lower Low (pos (10 ^ 16 - 1))
    ≡ codes "九極九載九正九澗九溝九穰九秭九垓九京九兆九億九萬九千九百九十九"
unfolding digit_char unit_char minus_char
greatest_of_low = refl

-- one 零 for all places that are empty after a unit
one_zero_for_all_empty_places : spelled_text Traditional Lower High (pos (10 ^ 16 + 10 ^ 12))
    ≡ codes "一兆零一萬億"
unfolding digit_char unit_char minus_char
one_zero_for_all_empty_places = refl

zero_before_a_quotient : spelled_text Traditional Lower Middle (pos (10 ^ 12 + 10 ^ 8))
    ≡ codes "一萬零一億"
unfolding digit_char unit_char minus_char
zero_before_a_quotient = refl

least : spelled_text Traditional Lower TenThousand (negsuc (2 ^ 127 - 1))
    ≡ codes "負一百七十澗一千四百一十一溝八千三百四十六穰零四百六十九秭二千三百一十七垓三千一百六十八京七千三百零三兆七千一百五十八億八千四百一十萬五千七百二十八"
unfolding digit_char unit_char minus_char
least = refl

greatest_by_ten_thousand : spelled_text Traditional Lower TenThousand (pos (2 ^ 128 - 1))
    ≡ codes "三百四十澗二千八百二十三溝六千六百九十二穰零九百三十八秭四千六百三十四垓六千三百三十七京四千六百零七兆四千三百一十七億六千八百二十一萬一千四百五十五"
unfolding digit_char unit_char minus_char
greatest_by_ten_thousand = refl

greatest_by_middle : spelled_text Traditional Lower Middle (pos (2 ^ 128 - 1))
    ≡ codes "三百四十萬二千八百二十三垓六千六百九十二萬零九百三十八京四千六百三十四萬六千三百三十七兆四千六百零七萬四千三百一十七億六千八百二十一萬一千四百五十五"
unfolding digit_char unit_char minus_char
greatest_by_middle = refl

greatest_by_high : spelled_text Traditional Lower High (pos (2 ^ 128 - 1))
    ≡ codes "三百四十萬二千八百二十三京六千六百九十二萬零九百三十八億四千六百三十四萬六千三百三十七兆四千六百零七萬四千三百一十七億六千八百二十一萬一千四百五十五"
unfolding digit_char unit_char minus_char
greatest_by_high = refl
