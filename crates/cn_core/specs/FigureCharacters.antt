-- The characters that occur in figures, and those that occur beside numerals in quantities. Most
-- are listed in ASCII, as typed or printed, and full-width.
use Rattle.std.specs.Prelude.{ℕ, Bool, ◌||◌, List, [], ◌∷◌, codes, Option, Some, None, if◌then◌else◌}
use Rattle.std.specs.Char.{char_set_contains, is_ascii_digit}
use Rattle.std.specs.Int.{is_in_range}
use Rattle.cn_core.specs.Characters.{row_with}

-- the figures: the ASCII digits and their full-width forms, from 0 to 9
abbrev pub figure_rows : List (List ℕ)
figure_rows =
    codes "0０" ∷ codes "1１" ∷ codes "2２" ∷ codes "3３" ∷ codes "4４" ∷ codes "5５" ∷ codes "6６"
    ∷ codes "7７" ∷ codes "8８" ∷ codes "9９" ∷ []

-- the value of a figure: 5 for ５
unfoldable pub figure_of : ℕ → Option ℕ
figure_of c = row_with c figure_rows

-- whether a character is a full-width figure, from ０ to ９
abbrev pub is_wide_figure : ℕ → Bool
is_wide_figure c = is_in_range 65296 65305 c

-- whether a character is a figure, in ASCII or full-width
abbrev pub is_figure : ℕ → Bool
is_figure c = is_ascii_digit c || is_wide_figure c

-- whether a character is a minus or a plus sign before figures, as 负 is before a numeral
abbrev pub is_figure_minus : ℕ → Bool
is_figure_minus c = char_set_contains (codes "-−－") c

abbrev pub is_figure_plus : ℕ → Bool
is_figure_plus c = char_set_contains (codes "+＋") c

-- whether a character is a point between figures, as 点 is between digits
abbrev pub is_figure_point : ℕ → Bool
is_figure_point c = char_set_contains (codes ".．") c

-- whether a character is a comma, which may occur before three figures
abbrev pub is_comma : ℕ → Bool
is_comma c = char_set_contains (codes ",，") c

-- whether a character is a sign after a share of 100 (percent), of 1000 (per mille), or of either
abbrev pub is_percent : ℕ → Bool
is_percent c = char_set_contains (codes "%％") c

abbrev pub is_per_mille : ℕ → Bool
is_per_mille c = char_set_contains (codes "‰") c

abbrev pub is_share_sign : ℕ → Bool
is_share_sign c = is_percent c || is_per_mille c

-- whether a character is the sign of yuan, which occurs before an amount
abbrev pub is_currency : ℕ → Bool
is_currency c = char_set_contains (codes "¥￥") c

-- the tens that one character stands for: 廿 is 20, and 卅 is 30
unfoldable pub tens_of : ℕ → Option ℕ
tens_of c =
    if char_set_contains (codes "廿") c then Some 20
    else (if char_set_contains (codes "卅") c then Some 30 else None)
