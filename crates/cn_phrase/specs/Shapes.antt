-- The numbers that the slots of phrases hold.
use Rattle.std.specs.Prelude.{ℕ, ◌+◌, ◌*◌, ◌==◌, nat_le, nat_lt, Bool, false, ◌&&◌, ◌||◌, List, [], ◌∷◌, length, codes, Option, Some, None, if◌then◌else◌}
use Rattle.std.specs.Char.{char_set_contains}
use Rattle.std.specs.List.{list_any}
use Rattle.std.specs.Option.{option_and_then, option_map, option_or}
use Rattle.cn_core.specs.Characters.{digit_of}
use Rattle.cn_core.specs.FigureCharacters.{figure_of}
use Rattle.cn_phrase.specs.declared.shape.Shape.{Shape}
use Rattle.cn_phrase.specs.declared.shape.Shape.TheVariants.{Year, FullYear, EraYear, Count, Clock, LongCount, ZeroDigit, Small, OneDigit, Quarter, TwoDigits, TwoFigures, FewFigures}

-- the value of a Chinese digit, such as 2 for 两
unfoldable pub chinese_digit : ℕ → Option ℕ
chinese_digit c =
    if char_set_contains (codes "零〇一二两兩三四五六七八九") c then digit_of c else None

-- the value of a Chinese digit from 1 to 9
abbrev pub counting_digit : ℕ → Option ℕ
counting_digit c = option_and_then (λ n. if n == 0 then None else Some n) (chinese_digit c)

-- the character is 十
unfoldable pub is_ten : ℕ → Bool
is_ten c = char_set_contains (codes "十") c

-- the character is a Chinese zero
unfoldable pub is_zero : ℕ → Bool
is_zero c = char_set_contains (codes "零〇") c

-- the number of two digits
abbrev pub two_digits : Option ℕ → Option ℕ → Option ℕ
two_digits first second =
    option_and_then (λ tens. option_map (λ ones. 10 * tens + ones) second) first

-- one or two figures, or a numeral up to 99 without two digits side by side
abbrev pub count_of : List ℕ → Option ℕ
count_of [] = None
count_of (c ∷ []) =
    if is_ten c then Some 10 else option_or (figure_of c) (chinese_digit c)
count_of (c ∷ d ∷ []) =
    if is_ten c then two_digits (Some 1) (counting_digit d)
    else (if is_ten d then two_digits (counting_digit c) (Some 0)
    else two_digits (figure_of c) (figure_of d))
count_of (c ∷ d ∷ e ∷ []) =
    if is_ten d then two_digits (counting_digit c) (counting_digit e) else None
count_of text = None

-- 零 and a Chinese digit
abbrev pub zero_digit_of : List ℕ → Option ℕ
zero_digit_of (c ∷ d ∷ []) = if is_zero c then chinese_digit d else None
zero_digit_of text = None

-- a number of a clock: a count, or 零 and a digit
abbrev pub clock_of : List ℕ → Option ℕ
clock_of text = option_or (count_of text) (zero_digit_of text)

-- a number of two parts, of which the second has two digits
abbrev pub hundreds : Option ℕ → Option ℕ → Option ℕ
hundreds first second =
    option_and_then (λ high. option_map (λ low. 100 * high + low) second) first

-- the number of four digits
abbrev pub four_digits : (ℕ → Option ℕ) → List ℕ → Option ℕ
four_digits digit (a ∷ b ∷ c ∷ d ∷ []) =
    hundreds (two_digits (digit a) (digit b)) (two_digits (digit c) (digit d))
four_digits digit text = None

-- a year of four figures or four Chinese digits, from 1000 to 2999
abbrev pub year_of : List ℕ → Option ℕ
year_of text =
    option_and_then (λ year. if nat_le 1000 year && nat_lt year 3000 then Some year else None)
    (option_or (four_digits figure_of text) (four_digits chinese_digit text))

-- two digits that follow one another, as in 五六 and 三五, are said of numbers that are approximate
abbrev pub are_about : ℕ → ℕ → Bool
are_about a b = nat_lt 0 a && (b == a + 1 || (a == 3 && b == 5))

-- the last two digits of a year, in Chinese
abbrev pub short_year_of : List ℕ → Option ℕ
short_year_of (c ∷ d ∷ []) =
    option_and_then (λ a. option_and_then (λ b. if are_about a b then None else Some (10 * a + b))
    (chinese_digit d)) (chinese_digit c)
short_year_of text = None

-- the number of three figures of which the first is not 0
abbrev pub three_figures_of : List ℕ → Option ℕ
three_figures_of (c ∷ d ∷ e ∷ []) =
    hundreds (option_and_then (λ n. if n == 0 then None else Some n) (figure_of c))
    (two_digits (figure_of d) (figure_of e))
three_figures_of text = None

-- the character is 百
unfoldable pub is_hundred : ℕ → Bool
is_hundred c = char_set_contains (codes "百") c

-- what can be after 百: nothing, 零 and a digit, or a count of two characters or more
abbrev pub after_hundred : List ℕ → Option ℕ
after_hundred [] = Some 0
after_hundred (c ∷ []) = None
after_hundred text = clock_of text

-- a numeral with 百, up to 999
abbrev pub hundred_of : List ℕ → Option ℕ
hundred_of (c ∷ d ∷ rest) =
    if is_hundred d then hundreds (counting_digit c) (after_hundred rest) else None
hundred_of text = None

-- a number up to 999: a count, three figures, or a numeral with 百
abbrev pub small_of : List ℕ → Option ℕ
small_of text = option_or (count_of text) (option_or (three_figures_of text) (hundred_of text))

-- a year by itself
abbrev pub full_year_of : List ℕ → Option ℕ
full_year_of text = option_or (year_of text) (short_year_of text)

-- a year before a month, also one of an era
abbrev pub era_year_of : List ℕ → Option ℕ
era_year_of text = option_or (full_year_of text) (small_of text)

-- a count of two characters or more
abbrev pub long_count_of : List ℕ → Option ℕ
long_count_of text = if nat_le 2 (length text) then count_of text else None

-- one digit
abbrev pub digit_alone_of : List ℕ → Option ℕ
digit_alone_of (c ∷ []) = option_or (figure_of c) (chinese_digit c)
digit_alone_of text = None

-- two digits
abbrev pub two_of : (ℕ → Option ℕ) → List ℕ → Option ℕ
two_of digit (c ∷ d ∷ []) = two_digits (digit c) (digit d)
two_of digit text = None

-- two figures, or two Chinese digits
abbrev pub two_alone_of : List ℕ → Option ℕ
two_alone_of text = option_or (two_of figure_of text) (two_of chinese_digit text)

-- one or two figures
abbrev pub few_figures_of : List ℕ → Option ℕ
few_figures_of (c ∷ []) = figure_of c
few_figures_of text = two_of figure_of text

-- the number of a text of some shape
abbrev pub number_of : Shape → List ℕ → Option ℕ
number_of Year text = year_of text
number_of FullYear text = full_year_of text
number_of EraYear text = era_year_of text
number_of Count text = count_of text
number_of Clock text = clock_of text
number_of LongCount text = long_count_of text
number_of ZeroDigit text = zero_digit_of text
number_of Small text = small_of text
number_of OneDigit text = digit_alone_of text
number_of Quarter text = digit_alone_of text
number_of TwoDigits text = two_alone_of text
number_of TwoFigures text = two_of figure_of text
number_of FewFigures text = few_figures_of text

abbrev pub is_two : ℕ → Bool
is_two c = char_set_contains (codes "两兩") c

-- 两 is after the first character, but a number can only begin with it
abbrev pub has_later_two : List ℕ → Bool
has_later_two [] = false
has_later_two (c ∷ text) = list_any is_two text

-- the number in a slot
abbrev pub value_of : Shape → List ℕ → Option ℕ
value_of shape text = if has_later_two text then None else number_of shape text
