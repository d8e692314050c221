-- The value of a text without sign, percent sign and 分之.
use Rattle.std.specs.Prelude.{ℕ, ◌+◌, Bool, ◌&&◌, ◌==◌, nat_lt, List, [], ◌∷◌, length, Option, Some, None, Result, Ok, Err, if◌then◌else◌, option_map}
use Rattle.std.specs.Option.{option_map_or}
use Rattle.cn_core.specs.FigureCharacters.{tens_of}
use Rattle.cn_core.specs.declared.method.ChineseCountMethod.{ChineseCountMethod}
use Rattle.cn_core.specs.Refusal.{Refusal, incorrect_at, too_large}
use Rattle.cn_quantity.specs.declared.characters.DigitKind.TheVariants.{Figure, Chinese}
use Rattle.cn_quantity.specs.declared.number.Decimal.{Decimal}
use Rattle.cn_quantity.specs.Answer.{and_then}
use Rattle.cn_quantity.specs.Characters.{chinese_digit_of}
use Rattle.cn_quantity.specs.Decimal.{after_point, before_point, decimals_behind_point, is_chinese_decimal}
use Rattle.cn_quantity.specs.Digits.{read_with_units}
use Rattle.cn_quantity.specs.Figures.{decimals_in_figures, is_in_figures}
use Rattle.cn_quantity.specs.Turns.{by_turns}
use Rattle.cn_quantity.specs.Units.{are_rising_units, times_units}
use Rattle.cn_quantity.specs.WholeNumber.{whole_answer}

-- the number of 廿 or 卅 alone or with one Chinese digit: 23 for 廿三
abbrev pub short_tens : List ℕ → Option ℕ
short_tens [] = None
short_tens (c ∷ []) = tens_of c
short_tens (c ∷ d ∷ []) =
    option_map_or (λ tens. option_map (λ digit. tens + digit) (chinese_digit_of d)) (tens_of c) None
short_tens text = None

-- a number with this number of decimals, if it fits 128 bits without its point
abbrev pub decimal_of : ℕ → Option ℕ → Result Decimal Refusal
decimal_of decimals (Some number) = Ok (record { number = number; decimals = decimals })
decimal_of decimals None = Err too_large

-- the answer to a Chinese decimal: the text before the point is a whole number, and the digits
-- after the point continue its digits
abbrev pub chinese_decimal_answer : ChineseCountMethod → List ℕ → Result Decimal Refusal
chinese_decimal_answer method text =
    and_then (whole_answer method (before_point text))
    (λ whole. decimal_of (decimals_behind_point text)
    (read_with_units method Chinese whole (after_point text)))

-- the answer to a text that is 廿 or 卅, perhaps with one digit, or else a whole number
abbrev pub whole_number_answer : ChineseCountMethod → List ℕ → Result Decimal Refusal
whole_number_answer method text =
    option_map_or (λ number. decimal_of 0 (Some number)) (short_tens text)
    (and_then (whole_answer method text) (λ whole. decimal_of 0 (Some whole)))

-- the answer by the first shape that fits: a number in figures, one by turns, a Chinese decimal, or
-- else a whole number
abbrev pub shaped_number : ChineseCountMethod → List ℕ → Result Decimal Refusal
shaped_number method text =
    if is_in_figures text
    then decimal_of (decimals_in_figures text) (read_with_units method Figure 0 text)
    else option_map_or (λ number. decimal_of 0 (Some number)) (by_turns method text)
    (if is_chinese_decimal text then chinese_decimal_answer method text
    else whole_number_answer method text)

-- the whole number if there is one, else the other answer
abbrev pub or_shaped : Result ℕ Refusal → Result Decimal Refusal → Result Decimal Refusal
or_shaped (Ok number) shaped = decimal_of 0 (Some number)
or_shaped (Err refusal) shaped = shaped

-- the answer to a number: the whole number that the text is if the readers of numerals read it,
-- else by its shape
abbrev pub number_answer : ChineseCountMethod → List ℕ → Result Decimal Refusal
number_answer method text = or_shaped (whole_answer method text) (shaped_number method text)

-- the answer to a part of a fraction: the same, but rising units alone count as if 一 were before
-- them, as in 百分之百
abbrev pub part_answer : ChineseCountMethod → List ℕ → Result Decimal Refusal
part_answer method text =
    if nat_lt 0 (length text) && are_rising_units text then decimal_of 0 (times_units method 1 text)
    else number_answer method text

-- whether the number can be a divisor: a whole number above 0
abbrev pub is_divisor : Decimal → Bool
is_divisor decimal = nat_lt 0 decimal.number && decimal.decimals == 0

-- the answer to a divisor, which is such a number, or else its first character is at fault
abbrev pub divisor_answer : ChineseCountMethod → List ℕ → Result ℕ Refusal
divisor_answer method text =
    and_then (part_answer method text)
    (λ decimal. if is_divisor decimal then Ok decimal.number else Err (incorrect_at 0))
