-- Worked examples of reasons, each proved by computing the definitions.
use Rattle.std.proofs.Common.{◌≡◌, ℕ, List, [], ◌∷◌, map, codes, encode_utf8_all, Option, Some, None, refl}
use Rattle.std.specs.Char.{encode_utf8}
use Rattle.std.specs.Str.{chars}
use Rattle.cn_core.specs.declared.method.ChineseCountMethod.TheVariants.{TenThousand}
use Rattle.cn_core.specs.Characters.{digit_of, rank_of, sign_of as numeral_sign}
use Rattle.cn_core.specs.FigureCharacters.{figure_of, tens_of}
use Rattle.cn_judge.specs.declared.fault.NumeralFault.TheVariants.{Empty, TooLarge, TooSmall, Start, Character, Digits, Units, Ge, Groups}
use Rattle.cn_quantity.specs.declared.fault.QuantityFault.{QuantityFault}
use Rattle.cn_quantity.specs.declared.fault.QuantityFault.TheVariants.{Numeral, Misread, Denominator}
use Rattle.cn_quantity.specs.declared.misread.MisreadFault.TheVariants.{BareTen, RepeatedTen, AfterZero, Weight, TwoReadings, LeftOutZero}
use Rattle.cn_quantity.specs.Characters.{chinese_digit_of, is_fen, is_point, is_zhi, share_of, sign_of}
use Rattle.cn_quantity.specs.Reason.{quantity_fault}

abbrev faults : List (List ℕ) → List (Option QuantityFault)
faults texts = map (λ text. quantity_fault TenThousand (encode_utf8_all text)) texts

quantities : faults (codes "三點五" ∷ codes "一百十五" ∷ codes "二又五分之三" ∷ codes "-12.5%" ∷ [])
    ≡ None ∷ None ∷ None ∷ None ∷ []
unfolding chars encode_utf8 digit_of rank_of figure_of chinese_digit_of tens_of sign_of numeral_sign is_point
    is_fen is_zhi share_of
quantities = refl

-- 十 in 三千零十万 is also a unit after 零: the first rule counts; 二十十 is not a numeral either, but at
-- an earlier place
misread : faults (codes "三千零十万" ∷ codes "二十十" ∷ codes "一亿零万" ∷ codes "二两"
    ∷ codes "一百五万" ∷ codes "一亿二千" ∷ codes "负二两" ∷ [])
    ≡ Some (Misread BareTen) ∷ Some (Misread RepeatedTen) ∷ Some (Misread AfterZero)
    ∷ Some (Misread Weight) ∷ Some (Misread TwoReadings) ∷ Some (Misread LeftOutZero)
    ∷ Some (Misread Weight) ∷ []
unfolding chars encode_utf8 digit_of rank_of figure_of chinese_digit_of tens_of sign_of numeral_sign is_point
    is_fen is_zhi share_of
misread = refl

-- what a reader of numerals refuses at a later place has its reason
numerals : faults (codes "百五" ∷ codes "一角" ∷ codes "12,34" ∷ codes "一千百" ∷ codes "三个"
    ∷ codes "一萬二萬" ∷ codes "三千兩白" ∷ [])
    ≡ Some (Numeral Start) ∷ Some (Numeral Character) ∷ Some (Numeral Digits)
    ∷ Some (Numeral Units) ∷ Some (Numeral Ge) ∷ Some (Numeral Groups)
    ∷ Some (Numeral Character) ∷ []
unfolding chars encode_utf8 digit_of rank_of figure_of chinese_digit_of tens_of sign_of numeral_sign is_point
    is_fen is_zhi share_of
numerals = refl

-- the reason is that of the part at fault: of 百 before the bare ten, of 一百个 before the point, of 百
-- before the percent sign, of 萬五 and 百五 in a fraction
parts : faults (codes "百十五" ∷ codes "一百个点五" ∷ codes "一百二点五" ∷ codes "百%"
    ∷ codes "萬五分之一萬" ∷ codes "三分之百五" ∷ codes "百分之负百五" ∷ codes "二又五分之五" ∷ [])
    ≡ Some (Numeral Start) ∷ Some (Numeral Ge) ∷ Some (Numeral Character) ∷ Some (Numeral Start)
    ∷ Some (Numeral Start) ∷ Some (Numeral Start) ∷ Some (Numeral Start)
    ∷ Some (Numeral Character) ∷ []
unfolding chars encode_utf8 digit_of rank_of figure_of chinese_digit_of tens_of sign_of numeral_sign is_point
    is_fen is_zhi share_of
parts = refl

denominators : faults (codes "零分之一" ∷ codes "1.5分之1" ∷ codes "二两分之一" ∷ [])
    ≡ Some Denominator ∷ Some Denominator ∷ Some (Misread Weight) ∷ []
unfolding chars encode_utf8 digit_of rank_of figure_of chinese_digit_of tens_of sign_of numeral_sign is_point
    is_fen is_zhi share_of
denominators = refl

sizes : faults (codes "负" ∷ codes "0极" ∷ codes "-0极" ∷ codes "0极分之1" ∷ [])
    ≡ Some (Numeral Empty) ∷ Some (Numeral TooLarge) ∷ Some (Numeral TooSmall)
    ∷ Some (Numeral TooLarge) ∷ []
unfolding chars encode_utf8 digit_of rank_of figure_of chinese_digit_of tens_of sign_of numeral_sign is_point
    is_fen is_zhi share_of
sizes = refl
