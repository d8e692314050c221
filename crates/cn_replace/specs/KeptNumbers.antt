-- The new text of a number without its sign, in the kept style: its bytes, if it has one.
use Rattle.std.specs.Prelude.{ℕ, Bool, false, not, ◌&&◌, ◌||◌, nat_lt, List, [], ◌∷◌, ◌++◌, take, drop, reverse, codes, encode_utf8_all, Option, Some, None, is_some, Result, Ok, Err, if◌then◌else◌}
use Rattle.std.specs.Char.{char_set_contains, encode_utf8}
use Rattle.std.specs.List.{list_all}
use Rattle.std.specs.Option.{option_map_or}
use Rattle.cn_core.specs.declared.method.ChineseCountMethod.{ChineseCountMethod}
use Rattle.cn_core.specs.Characters.{digit_of, rank_of}
use Rattle.cn_core.specs.Refusal.{Refusal}
use Rattle.cn_quantity_text.specs.Figures.{figures_text}
use Rattle.cn_find.specs.Belongs.{is_chinese_digit}
use Rattle.cn_quantity.specs.declared.quantity.Quantity.{Quantity}
use Rattle.cn_quantity.specs.Reading.{quantity_answer}
use Rattle.cn_quantity.specs.Units.{are_below}
use Rattle.cn_core.specs.FigureCharacters.{is_figure}
use Rattle.cn_replace.specs.Pieces.{after_leading, begins, is_point, is_unit_from, is_zero, leading}

-- one text and then another, if both exist
abbrev pub and_text : Option (List ℕ) → Option (List ℕ) → Option (List ℕ)
and_text (Some text) (Some more) = Some (text ++ more)
and_text text more = None

-- the figures of a quantity that was read; none for a refusal
abbrev pub figures_of_answer : Result Quantity Refusal → Option (List ℕ)
figures_of_answer (Ok quantity) = Some (figures_text quantity)
figures_of_answer (Err refusal) = None

-- the quantity that characters are read as
unfoldable pub quantity_of : ChineseCountMethod → List ℕ → Result Quantity Refusal
quantity_of method text = quantity_answer method (encode_utf8_all text)

-- the figures of that quantity
unfoldable pub quantity_figures : ChineseCountMethod → List ℕ → Option (List ℕ)
quantity_figures method text = figures_of_answer (quantity_of method text)

-- a digit as its figure, and any other character unchanged
abbrev pub figure_or_same : ℕ → List ℕ
figure_or_same c =
    option_map_or (λ digit. take 1 (drop digit (codes "0123456789"))) (digit_of c) (encode_utf8 c)

-- digits one by one
abbrev pub digits_text : List ℕ → List ℕ
digits_text [] = []
digits_text (c ∷ text) = figure_or_same c ++ digits_text text

-- the text before the Chinese point, and the text from the point on
abbrev pub before_point : List ℕ → List ℕ
before_point text = leading (λ c. not (is_point c)) text

abbrev pub from_point : List ℕ → List ℕ
from_point text = after_leading (λ c. not (is_point c)) text

-- the character is a digit, or a unit from 萬 up
abbrev pub is_kept : ℕ → Bool
is_kept c = is_some (digit_of c) || is_unit_from 4 c

-- the text is a Chinese decimal without units, or whose last unit is from 萬 up: 三点五, 三点五万
unfoldable pub is_kept_decimal : List ℕ → Bool
is_kept_decimal text = begins is_point (from_point text) && begins is_kept (reverse text)

-- its whole part, its decimals one by one, and its units unchanged
unfoldable pub decimal_text : ChineseCountMethod → List ℕ → Option (List ℕ)
decimal_text method text =
    and_text (quantity_figures method (before_point text))
    (Some (codes "." ++ digits_text (drop 1 (from_point text))))

-- the character is 個
unfoldable pub is_ge : ℕ → Bool
is_ge c = char_set_contains (codes "个個") c

-- the character is a unit from 萬 up that is greater than each unit among these characters
abbrev pub is_above : ℕ → List ℕ → Bool
is_above c others = is_unit_from 4 c && are_below (rank_of c) others

-- the characters are units from 萬 up, perhaps after 個, and the first is greater than each unit
-- before it
abbrev pub is_end : List ℕ → List ℕ → Bool
is_end front [] = false
is_end front (c ∷ text) =
    list_all (is_unit_from 4) text
    && (is_above c front || (is_ge c && begins (λ u. is_above u front) text))

-- the units with which a section ends, and the text before these; `front` is the part of the
-- section that has been searched
abbrev pub end_of : List ℕ → List ℕ → List ℕ
end_of front [] = []
end_of front (c ∷ text) =
    if is_end front (c ∷ text) then c ∷ text else end_of (front ++ c ∷ []) text

abbrev pub before_end : List ℕ → List ℕ → List ℕ
before_end front [] = []
before_end front (c ∷ text) =
    if is_end front (c ∷ text) then [] else c ∷ before_end (front ++ c ∷ []) text

-- the text of a section: its zeros, a whole number in figures, and its units: 零800万 for 零八百万
unfoldable pub section_text : ChineseCountMethod → List ℕ → Option (List ℕ)
section_text method section =
    let rest = after_leading is_zero section in
    and_text (Some (encode_utf8_all (leading is_zero section)))
    (and_text (quantity_figures method (before_end [] rest)) (Some (encode_utf8_all (end_of [] rest))))

-- the text of the sections; these characters begin the first one, and the text after them follows.
-- A section ends after each unit from 萬 up that is greater than each unit after it
abbrev pub sections_text : ChineseCountMethod → List ℕ → List ℕ → Option (List ℕ)
sections_text method section [] = Some []
sections_text method section (c ∷ text) =
    if is_above c text
    then and_text (section_text method (section ++ c ∷ [])) (sections_text method [] text)
    else sections_text method (section ++ c ∷ []) text

-- the character is a unit from 億 up that is greater than each unit before it, and neither a unit
-- from 萬 up nor 個 is directly before it. The characters before it are given nearest first
unfoldable pub may_have_tenths : List ℕ → ℕ → Bool
may_have_tenths front u =
    is_unit_from 5 u && (are_below (rank_of u) (reverse front)
    && not (begins (λ c. is_unit_from 4 c || is_ge c) front))

-- the text, given last character first, ends with such a unit and a digit from 1 to 9: 三亿二
unfoldable pub is_tenth : List ℕ → Bool
is_tenth (d ∷ u ∷ front) =
    option_map_or (λ digit. nat_lt 0 digit) (digit_of d) false && may_have_tenths front u
is_tenth front = false

-- the text before that unit as a whole number, the digit as a decimal, and the unit: 3.2亿
unfoldable pub tenth_text : ChineseCountMethod → List ℕ → Option (List ℕ)
tenth_text method (d ∷ u ∷ front) =
    and_text (quantity_figures method (reverse front))
    (Some (codes "." ++ figure_or_same d ++ encode_utf8 u))
tenth_text method front = None

-- the text of a number, by the first of these rules that fits
unfoldable pub number_text : ChineseCountMethod → List ℕ → Option (List ℕ)
number_text method text =
    if begins is_figure text then Some (encode_utf8_all text)
    else if list_all is_chinese_digit text then Some (digits_text text)
    else if is_kept_decimal text then decimal_text method text
    else if begins (is_unit_from 4) (reverse text) then sections_text method [] text
    else if is_tenth (reverse text) then tenth_text method (reverse text)
    else quantity_figures method text
