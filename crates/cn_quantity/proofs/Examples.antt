-- Worked examples: what the definitions compute to. docs/RULES.md has them too.
use Rattle.std.proofs.Common.{◌≡◌, ℕ, ℤ, pos, negsuc, List, [], ◌∷◌, map, codes, encode_utf8_all, Result, Ok, Err, refl}
use Rattle.std.specs.Char.{encode_utf8}
use Rattle.std.specs.Str.{chars}
use Rattle.cn_core.specs.declared.method.ChineseCountMethod.TheVariants.{TenThousand}
use Rattle.cn_core.specs.Characters.{digit_of, rank_of, sign_of as numeral_sign}
use Rattle.cn_core.specs.FigureCharacters.{figure_of, tens_of}
use Rattle.cn_core.specs.Refusal.{Refusal, empty, incorrect_at, too_large}
use Rattle.cn_quantity.specs.declared.quantity.Quantity.{Quantity}
use Rattle.cn_quantity.specs.declared.quantity.QuantityForm.{QuantityForm}
use Rattle.cn_quantity.specs.declared.quantity.QuantityForm.TheVariants.{Whole, Decimal, Percent, Fraction}
use Rattle.cn_quantity.specs.Characters.{chinese_digit_of, is_fen, is_point, is_zhi, share_of, sign_of}
use Rattle.cn_quantity.specs.Figures.{groups_of}
use Rattle.cn_quantity.specs.Reading.{quantity_answer}
use Rattle.cn_quantity.specs.Trimmed.{zeros_at_end}

abbrev answers : List (List ℕ) → List (Result Quantity Refusal)
answers texts = map (λ text. quantity_answer TenThousand (encode_utf8_all text)) texts

-- this numerator over this denominator, in this form
abbrev is : ℤ → ℕ → QuantityForm → Result Quantity Refusal
is numerator denominator form =
    Ok (record { numerator = numerator; denominator = denominator; form = form })

chinese_decimals : answers (codes "三點一四" ∷ codes "三点一零" ∷ codes "三点五万"
    ∷ codes "一千二百三十四点五亿" ∷ codes "二零二五点三万" ∷ codes "三点五个亿" ∷ [])
    ≡ is (pos 314) 100 Decimal ∷ is (pos 310) 100 Decimal ∷ is (pos 350000) 10 Decimal
    ∷ is (pos 1234500000000) 10 Decimal ∷ is (pos 202530000) 10 Decimal
    ∷ is (pos 3500000000) 10 Decimal ∷ []
unfolding chars encode_utf8 digit_of rank_of figure_of chinese_digit_of tens_of sign_of numeral_sign is_point
    is_fen is_zhi share_of
chinese_decimals = refl

no_decimals : answers (codes "一百二点五" ∷ codes "一百二点五万" ∷ codes "一亿两千点五万"
    ∷ codes "三点五十" ∷ codes "点五" ∷ codes "三点" ∷ codes "3点5" ∷ [])
    ≡ Err (incorrect_at 3) ∷ Err (incorrect_at 3) ∷ Err (incorrect_at 4)
    ∷ Err (incorrect_at 1) ∷ Err (incorrect_at 0) ∷ Err (incorrect_at 1) ∷ Err (incorrect_at 1) ∷ []
unfolding chars encode_utf8 digit_of rank_of figure_of chinese_digit_of tens_of sign_of numeral_sign is_point
    is_fen is_zhi share_of
no_decimals = refl

figures : answers (codes "3.5万" ∷ codes "128万" ∷ codes "1.2万亿" ∷ codes "1,280.50"
    ∷ codes "１２．５" ∷ codes "１，２８０" ∷ codes "3个亿" ∷ codes "1.5個萬" ∷ [])
    ≡ is (pos 350000) 10 Decimal ∷ is (pos 1280000) 1 Whole ∷ is (pos 12000000000000) 10 Decimal
    ∷ is (pos 128050) 100 Decimal ∷ is (pos 125) 10 Decimal ∷ is (pos 1280) 1 Whole
    ∷ is (pos 300000000) 1 Whole ∷ is (pos 150000) 10 Decimal ∷ []
unfolding chars encode_utf8 digit_of rank_of figure_of chinese_digit_of tens_of sign_of numeral_sign is_point
    is_fen is_zhi share_of
figures = refl

no_figures : answers (codes "12,34" ∷ codes "0,100" ∷ codes ".5" ∷ codes "1.2.3"
    ∷ codes "1亿2000" ∷ codes "3万500" ∷ codes "0极" ∷ codes "1/3" ∷ codes "13个百" ∷ codes "3个" ∷ [])
    ≡ Err (incorrect_at 3) ∷ Err (incorrect_at 2) ∷ Err (incorrect_at 0) ∷ Err (incorrect_at 3)
    ∷ Err (incorrect_at 2) ∷ Err (incorrect_at 2) ∷ Err too_large ∷ Err (incorrect_at 1) ∷ Err (incorrect_at 0) ∷ Err (incorrect_at 1) ∷ []
unfolding chars encode_utf8 digit_of rank_of figure_of chinese_digit_of tens_of sign_of numeral_sign is_point
    is_fen is_zhi share_of
no_figures = refl

whole_numbers : answers (codes "一百二" ∷ codes "二零二五" ∷ codes "廿" ∷ codes "廿三"
    ∷ codes "卅" ∷ codes "一百廿" ∷ codes "百" ∷ codes "正" ∷ [])
    ≡ is (pos 120) 1 Whole ∷ is (pos 2025) 1 Whole ∷ is (pos 20) 1 Whole ∷ is (pos 23) 1 Whole
    ∷ is (pos 30) 1 Whole ∷ Err (incorrect_at 2) ∷ Err (incorrect_at 0) ∷ Err empty ∷ []
unfolding chars encode_utf8 digit_of rank_of figure_of chinese_digit_of tens_of sign_of numeral_sign is_point
    is_fen is_zhi share_of
whole_numbers = refl

groups : map groups_of (codes "1,280.5万" ∷ codes "5" ∷ codes "１，２" ∷ codes "1,," ∷ [])
    ≡ (codes "1" ∷ codes "280" ∷ []) ∷ (codes "5" ∷ []) ∷ (codes "１" ∷ codes "２" ∷ [])
    ∷ (codes "1" ∷ [] ∷ [] ∷ []) ∷ []
unfolding figure_of
groups = refl

zeros : zeros_at_end 4 1500 ∷ zeros_at_end 1 1500 ∷ zeros_at_end 3 0 ∷ [] ≡ 2 ∷ 1 ∷ 3 ∷ []
zeros = refl

percentages : answers (codes "12.5%" ∷ codes "五十％" ∷ codes "百%" ∷ codes "50%%" ∷ codes "5‰" ∷ codes "12.5‰" ∷ codes "‰" ∷ [])
    ≡ is (pos 125) 1000 Percent ∷ is (pos 50) 100 Percent ∷ Err (incorrect_at 0)
    ∷ Err (incorrect_at 2) ∷ is (pos 5) 1000 Fraction ∷ is (pos 125) 10000 Fraction
    ∷ Err (incorrect_at 0) ∷ []
unfolding chars encode_utf8 digit_of rank_of figure_of chinese_digit_of tens_of sign_of numeral_sign is_point
    is_fen is_zhi share_of
percentages = refl

fractions : answers (codes "三分之一" ∷ codes "百分之五十" ∷ codes "百分之百"
    ∷ codes "百分之12.5" ∷ codes "百万分之三" ∷ codes "百分之负五" ∷ codes "三分之-1" ∷ [])
    ≡ is (pos 1) 3 Fraction ∷ is (pos 50) 100 Percent ∷ is (pos 100) 100 Percent
    ∷ is (pos 125) 1000 Percent ∷ is (pos 3) 1000000 Fraction ∷ is (negsuc 4) 100 Percent
    ∷ is (negsuc 0) 3 Fraction ∷ []
unfolding chars encode_utf8 digit_of rank_of figure_of chinese_digit_of tens_of sign_of numeral_sign is_point
    is_fen is_zhi share_of
fractions = refl

no_fractions : answers (codes "零分之一" ∷ codes "三分之" ∷ codes "负三分之负一" ∷ codes "三分之负"
    ∷ codes "二又三分之四" ∷ codes "百分之五十%" ∷ [])
    ≡ Err (incorrect_at 0) ∷ Err (incorrect_at 2) ∷ Err (incorrect_at 4) ∷ Err (incorrect_at 3)
    ∷ Err (incorrect_at 1) ∷ Err (incorrect_at 5) ∷ []
unfolding chars encode_utf8 digit_of rank_of figure_of chinese_digit_of tens_of sign_of numeral_sign is_point
    is_fen is_zhi share_of
no_fractions = refl

signs : answers (codes " 负 三点五" ∷ codes "−5" ∷ codes "--5" ∷ codes "零下十二"
    ∷ codes "零下" ∷ codes "−¥5" ∷ codes "￥１，２８０" ∷ codes "¥五" ∷ [])
    ≡ is (negsuc 34) 10 Decimal ∷ is (negsuc 4) 1 Whole ∷ Err (incorrect_at 1)
    ∷ is (negsuc 11) 1 Whole ∷ Err (incorrect_at 1) ∷ is (negsuc 4) 1 Whole
    ∷ is (pos 1280) 1 Whole ∷ Err (incorrect_at 0) ∷ []
unfolding chars encode_utf8 digit_of rank_of figure_of chinese_digit_of tens_of sign_of numeral_sign is_point
    is_fen is_zhi share_of
signs = refl

-- a bare ten is added
bare_tens : answers (codes "一百十五" ∷ codes "两千零十五" ∷ codes "一千零十一" ∷ codes "一万零十"
    ∷ codes "一亿零十万" ∷ codes "两千零十五点五" ∷ [])
    ≡ is (pos 115) 1 Whole ∷ is (pos 2015) 1 Whole ∷ is (pos 1011) 1 Whole
    ∷ is (pos 10010) 1 Whole ∷ is (pos 100100000) 1 Whole ∷ is (pos 20155) 10 Decimal ∷ []
unfolding chars encode_utf8 digit_of rank_of figure_of chinese_digit_of tens_of sign_of numeral_sign is_point
    is_fen is_zhi share_of
bare_tens = refl

no_bare_tens : answers (codes "一百零十五" ∷ codes "一百十五万" ∷ codes "三千零十万" ∷ codes "一百十十"
    ∷ codes "零十" ∷ codes "十十" ∷ codes "二十百" ∷ codes "一亿零万" ∷ [])
    ≡ Err (incorrect_at 3) ∷ Err (incorrect_at 2) ∷ Err (incorrect_at 3) ∷ Err (incorrect_at 2)
    ∷ Err (incorrect_at 1) ∷ Err (incorrect_at 1) ∷ Err (incorrect_at 2) ∷ Err (incorrect_at 3) ∷ []
unfolding chars encode_utf8 digit_of rank_of figure_of chinese_digit_of tens_of sign_of numeral_sign is_point
    is_fen is_zhi share_of
no_bare_tens = refl

weights : answers (codes "二两" ∷ codes "十两" ∷ codes "一百两" ∷ codes "一千两百"
    ∷ codes "一万零两百" ∷ codes "十两个亿" ∷ [])
    ≡ Err (incorrect_at 1) ∷ Err (incorrect_at 1) ∷ Err (incorrect_at 2)
    ∷ is (pos 1200) 1 Whole ∷ is (pos 10200) 1 Whole ∷ is (pos 1200000000) 1 Whole ∷ []
unfolding chars encode_utf8 digit_of rank_of figure_of chinese_digit_of tens_of sign_of numeral_sign is_point
    is_fen is_zhi share_of
weights = refl

two_readings : answers (codes "一百五万" ∷ codes "二百三個億" ∷ codes "一万二亿" ∷ codes "一亿二千"
    ∷ codes "三亿五十" ∷ codes "一亿二" ∷ codes "一亿零二千" ∷ codes "一亿二千万" ∷ [])
    ≡ Err (incorrect_at 3) ∷ Err (incorrect_at 4) ∷ Err (incorrect_at 3) ∷ Err (incorrect_at 2)
    ∷ Err (incorrect_at 2) ∷ is (pos 120000000) 1 Whole ∷ is (pos 100002000) 1 Whole
    ∷ is (pos 120000000) 1 Whole ∷ []
unfolding chars encode_utf8 digit_of rank_of figure_of chinese_digit_of tens_of sign_of numeral_sign is_point
    is_fen is_zhi share_of
two_readings = refl

by_turns : answers (codes "1亿2000万" ∷ codes "12万3千" ∷ codes "5千5" ∷ codes "12万3456"
    ∷ codes "10亿零817万5288" ∷ codes "3万零5" ∷ codes "12万3" ∷ codes "１２万３千" ∷ [])
    ≡ is (pos 120000000) 1 Whole ∷ is (pos 123000) 1 Whole ∷ is (pos 5500) 1 Whole
    ∷ is (pos 123456) 1 Whole ∷ is (pos 1008175288) 1 Whole ∷ is (pos 30005) 1 Whole
    ∷ is (pos 123000) 1 Whole ∷ is (pos 123000) 1 Whole ∷ []
unfolding chars encode_utf8 digit_of rank_of figure_of chinese_digit_of tens_of sign_of numeral_sign is_point
    is_fen is_zhi share_of
by_turns = refl

mixed_fractions : answers (codes "二又五分之三" ∷ codes "-1又2分之1" ∷ codes "十二又百分之五" ∷ [])
    ≡ is (pos 13) 5 Fraction ∷ is (negsuc 2) 2 Fraction ∷ is (pos 1205) 100 Fraction ∷ []
unfolding chars encode_utf8 digit_of rank_of figure_of chinese_digit_of tens_of sign_of numeral_sign is_point
    is_fen is_zhi share_of
mixed_fractions = refl

no_mixed_fractions : answers (codes "又五分之三" ∷ codes "二又五分之五" ∷ codes "二又五" ∷ [])
    ≡ Err (incorrect_at 0) ∷ Err (incorrect_at 1) ∷ Err (incorrect_at 1) ∷ []
unfolding chars encode_utf8 digit_of rank_of figure_of chinese_digit_of tens_of sign_of numeral_sign is_point
    is_fen is_zhi share_of
no_mixed_fractions = refl
