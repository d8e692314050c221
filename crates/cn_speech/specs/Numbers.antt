-- Numbers in figures as they are spoken, in the lower case of a script.
use Rattle.std.specs.Prelude.{ℕ, ◌^◌, ◌==◌, nat_le, nat_lt, Bool, not, ◌&&◌, ◌||◌, List, [], ◌∷◌, ◌++◌, length, drop, reverse, filter, codes, map, Option, Some, None, is_ok, if◌then◌else◌}
use Rattle.std.specs.Char.{char_set_contains}
use Rattle.std.specs.List.{list_any}
use Rattle.std.specs.Option.{option_map_or}
use Rattle.cn_core.specs.declared.case.ChineseCase.TheVariants.{Lower}
use Rattle.cn_core.specs.declared.method.ChineseCountMethod.TheVariants.{TenThousand}
use Rattle.cn_core.specs.Characters.{digit_char}
use Rattle.cn_core.specs.FigureCharacters.{is_comma, is_figure, is_figure_point, is_per_mille, is_percent, is_share_sign}
use Rattle.cn_quantity_text.specs.Numerals.{magnitude_text}
use Rattle.cn_find.specs.Belongs.{begins_with}
use Rattle.cn_replace.specs.KeptNumbers.{quantity_of}
use Rattle.cn_replace.specs.Pieces.{after_leading, begins, leading}
use Rattle.cn_codes.specs.Counted.{without_blank}
use Rattle.cn_codes.specs.Digits.{number_of, value_of}
use Rattle.cn_speech.specs.declared.voice.Voice.{Voice}
use Rattle.cn_speech.specs.Voice.{two, word}

-- a digit by its name
abbrev pub digit_said : Voice → ℕ → ℕ
digit_said voice c = digit_char voice.variant Lower (value_of c)

-- digits one by one, as in a year
abbrev pub one_by_one : Voice → List ℕ → List ℕ
one_by_one voice digits = map (digit_said voice) digits

-- a number by its spelling
abbrev pub whole_said : Voice → ℕ → List ℕ
whole_said voice n = magnitude_text voice.variant Lower voice.method n

-- the number of figures with commas or without, if it is below 10^16
abbrev pub plain : List ℕ → List ℕ
plain figures = filter (λ c. not (is_comma c)) figures

abbrev pub below_limit : ℕ → Option ℕ
below_limit n = if nat_lt n (10 ^ 16) then Some n else None

abbrev pub small_number : List ℕ → Option ℕ
small_number figures = below_limit (number_of (plain figures))

-- figures as a number; from 10^16 on each is a digit
abbrev pub figures_said : Voice → List ℕ → List ℕ
figures_said voice figures =
    option_map_or (whole_said voice) (small_number figures) (one_by_one voice (plain figures))

-- ---- A number with its decimals

-- the characters of a whole part, and those of a stretch of figures with its decimals
abbrev pub is_of_whole : ℕ → Bool
is_of_whole c = is_figure c || is_comma c

abbrev pub is_of_figures : ℕ → Bool
is_of_figures c = is_of_whole c || is_figure_point c

-- a character before which 两 is said
unfoldable pub is_great : ℕ → Bool
is_great c = char_set_contains (codes "千万萬亿億") c

unfoldable pub is_ordinal : ℕ → Bool
is_ordinal c = char_set_contains (codes "第") c

unfoldable pub begins_two : List ℕ → Bool
begins_two said = begins_with (codes "二") said

-- 二 is at the start before 千, 万 or 亿
abbrev pub begins_great_two : List ℕ → List ℕ → Bool
begins_great_two said rest =
    begins_two said
    && (begins is_great (drop 1 said) || (length said == 1 && begins is_great rest))

-- 两 for such a 二, but not after 第
abbrev pub with_two : Voice → ℕ → List ℕ → List ℕ → List ℕ
with_two voice previous said rest =
    if begins_great_two said rest && not (is_ordinal previous) then two voice ++ drop 1 said else said

-- the decimals after a point, each as a digit; nothing without a point
abbrev pub decimals_said : Voice → List ℕ → List ℕ
decimals_said voice [] = []
decimals_said voice (c ∷ decimals) = word voice (codes "点") ++ one_by_one voice decimals

-- two or three figures after 万 or 亿 have 零 before them: 1亿500万
unfoldable pub is_myriad : ℕ → Bool
is_myriad c = char_set_contains (codes "万萬亿億") c

abbrev pub has_gap : ℕ → List ℕ → Bool
has_gap previous whole =
    is_myriad previous && (nat_le 2 (length whole) && nat_le (length whole) 3)

abbrev pub gap_said : ℕ → List ℕ → List ℕ
gap_said previous whole = if has_gap previous whole then codes "零" else []

-- a number after this character and before this text, with 两
abbrev pub two_or_whole : Voice → ℕ → List ℕ → ℕ → List ℕ
two_or_whole voice previous rest n = with_two voice previous (whole_said voice n) rest

-- the number of a whole part after this character and before this text, with 两
abbrev pub whole_number_said : Voice → ℕ → List ℕ → List ℕ → List ℕ
whole_number_said voice previous whole rest =
    option_map_or (two_or_whole voice previous rest) (small_number whole)
    (one_by_one voice (plain whole))

-- a whole part after this character and before this text, with 两 and 零
abbrev pub whole_part_said : Voice → ℕ → List ℕ → List ℕ → List ℕ
whole_part_said voice previous whole rest =
    gap_said previous whole ++ whole_number_said voice previous whole (without_blank rest)

-- the stretch of figures with which a text begins: 1,280.50 is 一千二百八十点五零
abbrev pub stretch_said : Voice → ℕ → List ℕ → List ℕ
stretch_said voice previous text =
    whole_part_said voice previous (leading is_of_whole text) (after_leading is_of_whole text)
    ++ decimals_said voice (leading is_of_figures (after_leading is_of_whole text))

-- ---- An expression

-- a character before a text: at the start of a stretch of figures all of that, nothing in it, for a
-- blank or a share sign; any other stays
abbrev pub character_said : Voice → ℕ → ℕ → List ℕ → List ℕ
character_said voice previous c text =
    if is_of_figures c
    then (if is_of_figures previous then [] else stretch_said voice previous (c ∷ text))
    else (if c == 32 || is_share_sign c then [] else c ∷ [])

-- a text after a character, as it is written: 142.98亿 is 一百四十二点九八亿, 1亿2000万 一亿两千万
abbrev pub as_written : Voice → ℕ → List ℕ → List ℕ
as_written voice previous [] = []
as_written voice previous (c ∷ text) =
    character_said voice previous c text ++ as_written voice c text

-- 100% is 百分之百
abbrev pub is_all : List ℕ → Bool
is_all text =
    number_of (leading is_figure text) == 100
    && begins is_percent (without_blank (after_leading is_figure text))

-- the number of a percentage
abbrev pub hundreds_said : Voice → List ℕ → List ℕ
hundreds_said voice text = if is_all text then codes "百" else as_written voice 32 text

abbrev pub percent_said : Voice → List ℕ → List ℕ
percent_said voice text = codes "百分之" ++ hundreds_said voice text

abbrev pub per_mille_said : Voice → List ℕ → List ℕ
per_mille_said voice text = codes "千分之" ++ as_written voice 32 text

abbrev pub share_said : Voice → List ℕ → List ℕ
share_said voice text =
    if list_any is_per_mille text then per_mille_said voice text else percent_said voice text

-- 第 if it is directly before a number, else a blank
abbrev pub character_before : List ℕ → ℕ
character_before front = if begins is_ordinal front then 0x7B2C else 32

-- an expression in figures, without its sign, after these characters
abbrev pub number_said : Voice → List ℕ → List ℕ → List ℕ
number_said voice front text =
    if list_any is_share_sign text then share_said voice text
    else as_written voice (character_before front) text

-- the text is a number; what is refused is not spoken
abbrev pub is_number : List ℕ → Bool
is_number text = is_ok (quantity_of TenThousand text)

-- ---- Sums of money

-- the zeros at the end of decimals, and their point, left out, as in a sum of money: 3.50 is 3.5
abbrev pub is_zero_figure : ℕ → Bool
is_zero_figure c = value_of c == 0 && is_figure c

abbrev pub trimmed : List ℕ → List ℕ
trimmed figures =
    if list_any is_figure_point figures
    then reverse (after_leading is_figure_point (after_leading is_zero_figure (reverse figures)))
    else figures
