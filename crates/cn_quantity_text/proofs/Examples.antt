-- Worked examples, each proved by computing the definitions. RULES shows them.
use Rattle.std.proofs.Common.{◌≡◌, ℕ, ℤ, pos, negsuc, List, [], ◌∷◌, map, codes, refl}
use Rattle.std.specs.Fmt.{digits}
use Rattle.cn_core.specs.declared.case.ChineseCase.TheVariants.{Upper, Lower}
use Rattle.cn_core.specs.declared.method.ChineseCountMethod.TheVariants.{TenThousand}
use Rattle.cn_core.specs.declared.script.ChineseVariant.TheVariants.{Traditional, Simple}
use Rattle.cn_core.specs.Characters.{digit_char, minus_char, rank_of, unit_char}
use Rattle.cn_quantity.specs.declared.quantity.Quantity.{Quantity}
use Rattle.cn_quantity.specs.declared.quantity.QuantityForm.{QuantityForm}
use Rattle.cn_quantity.specs.declared.quantity.QuantityForm.TheVariants.{Whole, Decimal, Percent, Fraction}
use Rattle.cn_quantity.specs.Trimmed.{decimals_over, trimmed}
use Rattle.cn_quantity_text.specs.Digits.{last_digits}
use Rattle.cn_quantity_text.specs.Figures.{figures_text}
use Rattle.cn_quantity_text.specs.Numerals.{greatest_spelled, quantity_text}

-- this numerator over this denominator, in this form
abbrev is : ℤ → ℕ → QuantityForm → Quantity
is numerator denominator form =
    record { numerator = numerator; denominator = denominator; form = form }

abbrev written : List Quantity → List (List ℕ)
written quantities = map (λ q. quantity_text Traditional Lower TenThousand q) quantities

two_digits : last_digits 2 5 ≡ 0 ∷ 5 ∷ []
two_digits = refl

numbers : written (is (pos 35) 1 Whole ∷ is (pos 314) 100 Decimal ∷ is (pos 310) 100 Decimal
    ∷ is (pos 5) 100 Decimal ∷ is (pos 350000) 10 Decimal ∷ [])
    ≡ codes "三十五" ∷ codes "三點一四" ∷ codes "三點一零" ∷ codes "零點零五" ∷ codes "三萬五千點零" ∷ []
unfolding digit_char unit_char decimals_over
numbers = refl

percentages : written (is (pos 125) 1000 Percent ∷ is (negsuc 4) 100 Percent ∷ [])
    ≡ codes "百分之十二點五" ∷ codes "負百分之五" ∷ []
unfolding digit_char unit_char minus_char decimals_over
percentages = refl

fractions : written (is (pos 1) 3 Fraction ∷ is (pos 50) 100 Fraction ∷ is (pos 125) 1000 Fraction
    ∷ is (pos 1) 100 Fraction ∷ is (pos 5) 10000 Fraction ∷ is (pos 3) 1000000 Fraction
    ∷ is (pos 3) 100000 Fraction ∷ is (pos 3) 1000000000000 Fraction ∷ is (pos 3) 1 Decimal ∷ [])
    ≡ codes "三分之一" ∷ codes "百分之五十" ∷ codes "千分之一百二十五" ∷ codes "百分之一"
    ∷ codes "萬分之五" ∷ codes "百萬分之三" ∷ codes "十萬分之三" ∷ codes "一兆分之三"
    ∷ codes "一分之三" ∷ []
unfolding digit_char unit_char rank_of decimals_over
fractions = refl

in_upper_case : quantity_text Simple Upper TenThousand (is (pos 1250) 10000 Percent)
    ≡ codes "佰分之拾贰点伍零"
unfolding digit_char unit_char decimals_over
in_upper_case = refl

-- for a decimal the number before its point, for a fraction the greater of its two numbers
greatest_numbers : map greatest_spelled (is (pos 314) 10 Decimal ∷ is (pos 1250) 10000 Percent
    ∷ is (negsuc 0) 7 Fraction ∷ is (pos 50) 7 Fraction ∷ is (pos 3) 1 Decimal ∷ [])
    ≡ 31 ∷ 12 ∷ 7 ∷ 50 ∷ 3 ∷ []
unfolding decimals_over
greatest_numbers = refl

without_zeros : map trimmed (is (pos 350000) 10 Decimal ∷ is (pos 310) 100 Decimal
    ∷ is (pos 1250) 10000 Percent ∷ is (pos 500) 100 Percent ∷ is (pos 50) 100 Fraction
    ∷ is (pos 30) 20 Decimal ∷ [])
    ≡ is (pos 35000) 1 Whole ∷ is (pos 31) 10 Decimal ∷ is (pos 125) 1000 Percent
    ∷ is (pos 500) 100 Percent ∷ is (pos 50) 100 Fraction ∷ is (pos 30) 20 Decimal ∷ []
unfolding decimals_over
without_zeros = refl

figures : map figures_text (is (pos 350000) 10 Decimal ∷ is (pos 35) 10 Decimal
    ∷ is (pos 5) 100 Decimal ∷ is (negsuc 34) 10 Decimal ∷ is (pos 1250) 10000 Percent
    ∷ is (pos 1) 3 Fraction ∷ is (negsuc 0) 3 Fraction ∷ is (pos 7) 3 Whole
    ∷ is (pos 50) 100 Fraction ∷ is (pos 5) 0 Fraction ∷ [])
    ≡ codes "35000" ∷ codes "3.5" ∷ codes "0.05" ∷ codes "-3.5" ∷ codes "12.5%" ∷ codes "1/3"
    ∷ codes "-1/3" ∷ codes "7/3" ∷ codes "50/100" ∷ codes "5/0" ∷ []
unfolding decimals_over digits
figures = refl
