-- Which characters are read as digits, units and signs, and which character writes each of them.
use Rattle.std.specs.Prelude.{ℕ, if◌then◌else◌, List, [], ◌∷◌, codes, position, Option, Some, None, slice_index}
use Rattle.std.specs.Char.{char_set_contains, encode_utf8}
use Rattle.cn_core.specs.declared.script.ChineseVariant.{ChineseVariant}
use Rattle.cn_core.specs.declared.script.ChineseVariant.TheVariants.{Traditional, Simple}
use Rattle.cn_core.specs.declared.case.ChineseCase.{ChineseCase}
use Rattle.cn_core.specs.declared.case.ChineseCase.TheVariants.{Upper, Lower}
use Rattle.cn_core.specs.declared.unit.Unit.{Unit as NumeralUnit}
use Rattle.cn_core.specs.declared.unit.Unit.TheVariants.{Ge, Shi, Bai, Qian, Wan, Yi, Zhao, Jing, Gai, Zi, Rang, Gou, Jian, Zheng, Zai, Ji}
use Rattle.cn_core.specs.declared.sign.Sign.{Sign}
use Rattle.cn_core.specs.declared.sign.Sign.TheVariants.{Plus, Minus}

-- the number of the first row that contains the character, counted from 0
abbrev pub row_with : ℕ → List (List ℕ) → Option ℕ
row_with c rows = position (λ row. char_set_contains row c) rows

-- the characters that are read as each digit, from 0 to 9
abbrev pub digit_rows : List (List ℕ)
digit_rows =
    codes "零0〇" ∷ codes "一壹1" ∷ codes "二貳贰貮兩两2" ∷ codes "三參叁叄参3" ∷ codes "四肆4"
    ∷ codes "五伍5" ∷ codes "六陸陆6" ∷ codes "七柒7" ∷ codes "八捌8" ∷ codes "九玖9" ∷ []

-- the characters that are read as each unit, from rank 0 to rank 15
abbrev pub unit_rows : List (List ℕ)
unit_rows =
    codes "個个" ∷ codes "十拾" ∷ codes "百佰" ∷ codes "千仟" ∷ codes "萬万" ∷ codes "億亿"
    ∷ codes "兆" ∷ codes "京" ∷ codes "垓" ∷ codes "秭" ∷ codes "穰" ∷ codes "溝沟" ∷ codes "澗涧"
    ∷ codes "正" ∷ codes "載载" ∷ codes "極极" ∷ []

-- the value of a digit character: 2 for 兩
unfoldable pub digit_of : ℕ → Option ℕ
digit_of c = row_with c digit_rows

-- the rank of a unit character: 1 for 拾
unfoldable pub rank_of : ℕ → Option ℕ
rank_of c = row_with c unit_rows

-- the rank of a unit
abbrev pub rank : NumeralUnit → ℕ
rank Ge = 0
rank Shi = 1
rank Bai = 2
rank Qian = 3
rank Wan = 4
rank Yi = 5
rank Zhao = 6
rank Jing = 7
rank Gai = 8
rank Zi = 9
rank Rang = 10
rank Gou = 11
rank Jian = 12
rank Zheng = 13
rank Zai = 14
rank Ji = 15

-- the sign of a sign character: 正 is plus, 負 and 负 are minus
unfoldable pub sign_of : ℕ → Option Sign
sign_of c =
    if char_set_contains (codes "正") c then Some Plus
    else (if char_set_contains (codes "負负") c then Some Minus else None)

-- the characters that write the digits from 0 to 9
abbrev pub printed_digits : ChineseVariant → ChineseCase → List ℕ
printed_digits variant Lower = codes "零一二三四五六七八九"
printed_digits Traditional Upper = codes "零壹貳參肆伍陸柒捌玖"
printed_digits Simple Upper = codes "零壹贰叁肆伍陆柒捌玖"

-- the characters that write the units from rank 0 to rank 15
abbrev pub printed_units : ChineseVariant → ChineseCase → List ℕ
printed_units Traditional Lower = codes "個十百千萬億兆京垓秭穰溝澗正載極"
printed_units Simple Lower = codes "个十百千万亿兆京垓秭穰沟涧正载极"
printed_units Traditional Upper = codes "個拾佰仟萬億兆京垓秭穰溝澗正載極"
printed_units Simple Upper = codes "个拾佰仟万亿兆京垓秭穰沟涧正载极"

-- the word of a printed character: the byte 0, then the bytes of the character
abbrev pub printed_word : ℕ → List ℕ
printed_word c = 0 ∷ encode_utf8 c

-- the character that writes a digit
unfoldable pub digit_char : ChineseVariant → ChineseCase → ℕ → ℕ
digit_char variant case digit = slice_index (printed_digits variant case) digit

-- the character that writes the unit of a rank
unfoldable pub unit_char : ChineseVariant → ChineseCase → ℕ → ℕ
unit_char variant case unit = slice_index (printed_units variant case) unit

-- the character that writes the minus sign
unfoldable pub minus_char : ChineseVariant → ℕ
minus_char Traditional = slice_index (codes "負") 0
minus_char Simple = slice_index (codes "负") 0
