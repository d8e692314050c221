-- A quantity in numerals.
use Rattle.std.specs.Prelude.{ℕ, ◌/◌, ◌^◌, ◌==◌, ℤ, pos, int_lt, nat_abs, nat_le, max, Bool, ◌&&◌, false, List, [], ◌∷◌, ◌++◌, map, codes, slice_index, if◌then◌else◌}
use Rattle.std.specs.Option.{option_map_or}
use Rattle.std.specs.List.{list_all}
use Rattle.cn_core.specs.declared.case.ChineseCase.{ChineseCase}
use Rattle.cn_core.specs.declared.method.ChineseCountMethod.{ChineseCountMethod}
use Rattle.cn_core.specs.declared.script.ChineseVariant.{ChineseVariant}
use Rattle.cn_core.specs.declared.script.ChineseVariant.TheVariants.{Traditional, Simple}
use Rattle.cn_core.specs.Characters.{digit_char, minus_char, unit_char}
use Rattle.cn_core.specs.Printing.{is_printable, mark_char}
use Rattle.cn_core.specs.Spelling.{spelling}
use Rattle.cn_quantity.specs.declared.quantity.Quantity.{Quantity}
use Rattle.cn_quantity.specs.declared.quantity.QuantityForm.{QuantityForm}
use Rattle.cn_quantity.specs.declared.quantity.QuantityForm.TheVariants.{Percent}
use Rattle.cn_quantity.specs.Trimmed.{decimals_of}
use Rattle.cn_quantity.specs.Units.{are_rising_units, first_rank}
use Rattle.cn_quantity_text.specs.Digits.{behind_point}

-- the point: 點, or 点 in the simple script
abbrev pub point_char : ChineseVariant → ℕ
point_char Traditional = slice_index (codes "點") 0
point_char Simple = slice_index (codes "点") 0

-- the text between the divisor and the number that it divides
abbrev pub bar : List ℕ
bar = codes "分之"

-- a magnitude by its spelling
abbrev pub magnitude_text : ChineseVariant → ChineseCase → ChineseCountMethod → ℕ → List ℕ
magnitude_text variant case method number = map (mark_char variant case) (spelling method number)

-- a number whose last `decimals` digits are after the point: 三點一四 for 314 with two
abbrev pub decimal_text : ChineseVariant → ChineseCase → ChineseCountMethod → ℕ → ℕ → List ℕ
decimal_text variant case method decimals number =
    magnitude_text variant case method (number / 10 ^ decimals)
    ++ behind_point (point_char variant) (digit_char variant case) decimals number

-- a text of rising units, of which the first is 百, 千, 萬 or 億. Before such a text a divisor has no
-- 一. Before greater units it keeps it, since 正 would be read as a sign
abbrev pub stand_alone : List ℕ → Bool
stand_alone text =
    are_rising_units text && option_map_or (λ rank. nat_le rank 5) (first_rank text) false

-- the text without its first character, if that is `front` and a text that stands alone follows it
abbrev pub without_front : ℕ → List ℕ → List ℕ
without_front front [] = []
without_front front (c ∷ rest) = if c == front && stand_alone rest then rest else c ∷ rest

-- the text of a divisor: its spelling, without a first 一 before a text that stands alone: 三, 百, 百萬,
-- 一兆
abbrev pub divisor_text : ChineseVariant → ChineseCase → ChineseCountMethod → ℕ → List ℕ
divisor_text variant case method divisor =
    without_front (digit_char variant case 1) (magnitude_text variant case method divisor)

-- the text of a fraction, which has the divisor before 分之 and the number after it: 三分之一
abbrev pub fraction_text : ChineseVariant → ChineseCase → ChineseCountMethod → ℕ → ℕ → List ℕ
fraction_text variant case method divisor number =
    divisor_text variant case method divisor ++ (bar ++ magnitude_text variant case method number)

-- the text that begins a percentage, 百分之, and nothing for another form
abbrev pub hundredths : ChineseVariant → ChineseCase → QuantityForm → List ℕ
hundredths variant case Percent = unit_char variant case 2 ∷ bar
hundredths variant case form = []

-- a quantity without its sign: a number or a percentage if its denominator is one of its form, else
-- a fraction
abbrev pub unsigned_text : ChineseVariant → ChineseCase → ChineseCountMethod → Quantity → List ℕ
unsigned_text variant case method q =
    option_map_or (λ decimals. hundredths variant case q.form
    ++ decimal_text variant case method decimals (nat_abs q.numerator))
    (decimals_of q) (fraction_text variant case method q.denominator (nat_abs q.numerator))

-- the minus sign if the numerator is below 0
abbrev pub sign_text : ChineseVariant → ℤ → List ℕ
sign_text variant numerator =
    if int_lt numerator (pos 0) then minus_char variant ∷ [] else []

-- the text of a quantity, with its sign: 三點一四, 百分之十二點五, 負三分之一
abbrev pub quantity_text : ChineseVariant → ChineseCase → ChineseCountMethod → Quantity → List ℕ
quantity_text variant case method q =
    sign_text variant q.numerator ++ unsigned_text variant case method q

-- the numbers of a quantity that are spelled
abbrev pub spelled_numbers : Quantity → List ℕ
spelled_numbers q =
    option_map_or (λ decimals. nat_abs q.numerator / 10 ^ decimals ∷ []) (decimals_of q)
    (q.denominator ∷ nat_abs q.numerator ∷ [])

-- the greatest of these numbers, or 0 if there are none
abbrev pub greatest : List ℕ → ℕ
greatest [] = 0
greatest (number ∷ rest) = max number (greatest rest)

-- the greatest number that is spelled in a quantity
abbrev pub greatest_spelled : Quantity → ℕ
greatest_spelled q = greatest (spelled_numbers q)

-- the method writes each number of the quantity: with `Low`, each must be below 10^16
abbrev pub is_written_by : ChineseCountMethod → Quantity → Bool
is_written_by method q = list_all (λ number. is_printable method (pos number)) (spelled_numbers q)
