-- The code that begins at a place of a text.
use Rattle.std.specs.Prelude.{ℕ, ◌==◌, nat_le, nat_lt, Bool, true, false, not, ◌&&◌, ◌||◌, List, [], ◌∷◌, length, drop, reverse, codes, chars, Option, Some, None, if◌then◌else◌}
use Rattle.std.specs.Char.{char_set_contains, is_ascii_alphabetic}
use Rattle.std.specs.List.{list_all, list_any}
use Rattle.std.specs.Option.{option_map, option_or}
use Rattle.cn_core.specs.FigureCharacters.{is_figure}
use Rattle.cn_find.specs.Belongs.{begins_with}
use Rattle.cn_find.specs.Words.{is_title_open}
use Rattle.cn_replace.specs.Pieces.{after_leading, begins, leading}
use Rattle.cn_codes.specs.declared.code.Code.{Code as CodeCode}
use Rattle.cn_codes.specs.declared.code.CodeKind.{CodeKind}
use Rattle.cn_codes.specs.declared.code.CodeKind.TheVariants.{Plain, Pointed, Barred}
use Rattle.cn_codes.specs.Beside.{follows_letters, touches_after, touches_before}
use Rattle.cn_codes.specs.CodeWords.{begins_after_name, begins_century, begins_of_year, begins_room, begins_route, follows_building, follows_word, is_called, is_generation, is_service}
use Rattle.cn_codes.specs.Counted.{begins_counted}
use Rattle.cn_codes.specs.Digits.{begins_zero, is_chinese, is_yao, number_of, rise_from}
use Rattle.cn_codes.specs.Words.{ends_any}
use Rattle.cn_codes.specs.Groups.{Group, after_groups, are_fours, groups_of, have_signs, is_hotline, is_landline, is_mobile, is_mobile_in_groups}

-- a code: plain digits, numbers with points between, or groups with bars between that are said; and the
-- text after it
pub record Code : Type 0 where
  pub kind : CodeKind
  pub rest : List ℕ

-- what a `Code` in the code is
abbrev pub code_of : CodeCode → Code
code_of code = record { kind = code.kind; rest = chars code.rest.now }

unfoldable pub is_point : ℕ → Bool
is_point c = char_set_contains (codes ".点點") c

unfoldable pub is_bar : ℕ → Bool
is_bar c = char_set_contains (codes "-杠") c

unfoldable pub is_dash : ℕ → Bool
is_dash c = char_set_contains (codes "-") c

unfoldable pub is_blank : ℕ → Bool
is_blank c = char_set_contains (codes " ") c

-- ---- Points

-- the last digit is 一
abbrev pub ends_with_one : List Group → Bool
ends_with_one [] = false
ends_with_one (last ∷ []) = begins_with (codes "一") (reverse last.digits)
ends_with_one (group ∷ groups) = ends_with_one groups

-- each number has at most four digits
abbrev pub are_short : List Group → Bool
are_short groups = list_all (λ group. nat_le (length group.digits) 4) groups

-- each number is at most 255
abbrev pub are_bytes : List Group → Bool
are_bytes groups = list_all (λ group. nat_le (number_of group.digits) 255) groups

-- three numbers of a version, or four of an address
abbrev pub are_enough : List Group → Bool
are_enough groups = length groups == 3 || (length groups == 4 && are_bytes groups)

abbrev pub are_pointed : List Group → Bool
are_pointed groups = have_signs is_point groups && (are_short groups && are_enough groups)

-- a month and a day
unfoldable pub may_be_day : List ℕ → List ℕ → Bool
may_be_day month day = nat_le (number_of month) 12 && nat_le (number_of day) 31

-- a year, a month and a day: 2026.1.15
abbrev pub may_be_date : List Group → Bool
may_be_date (year ∷ month ∷ day ∷ []) =
    length year.digits == 4 && may_be_day month.digits day.digits
may_be_date groups = false

-- v or V is directly before a place, and no letter before it
abbrev pub follows_version : List ℕ → Bool
follows_version front =
    begins_with (codes "vV") front && not (begins is_ascii_alphabetic (drop 1 front))

abbrev pub is_pointed_figures : List ℕ → List Group → List ℕ → Bool
is_pointed_figures front groups rest =
    (not (touches_before front) || follows_version front)
    && (not (touches_after rest) && not (may_be_date groups))

-- Chinese digits go on with a unit, or end with 一, which begins a word with the text: 一起
abbrev pub is_pointed_chinese : List Group → List ℕ → Bool
is_pointed_chinese groups rest =
    not (begins_with (codes "点點十百千万亿分刻半时時个個") rest)
    && not (ends_with_one groups && begins_with (codes "定直起样樣些下") rest)

-- an address or a version
abbrev pub is_pointed : List ℕ → Bool → List Group → List ℕ → Bool
is_pointed front in_chinese groups rest =
    are_pointed groups
    && (if in_chinese then is_pointed_chinese groups rest else is_pointed_figures front groups rest)

-- ---- Groups

-- three or more groups of four digits with blanks between, the last of at most four
abbrev pub is_card : List Group → Bool
is_card groups = have_signs is_blank groups && (nat_le 3 (length groups) && are_fours groups)

-- the groups have the shape of a number of a telephone or a card
abbrev pub have_shape : List Group → Bool
have_shape groups =
    (have_signs is_blank groups || have_signs is_dash groups)
    && (is_mobile_in_groups groups || (is_landline groups || (is_hotline groups || is_card groups)))

abbrev pub is_grouped : List ℕ → List Group → List ℕ → Bool
is_grouped front groups rest =
    (nat_le 2 (length groups) && nat_lt (length groups) 9)
    && (not (touches_before front) && not (touches_after rest))

-- how groups are a code: by their points, by their shape, or after a word of codes with bars between
abbrev pub kind_of_groups : List ℕ → Bool → List Group → List ℕ → Option CodeKind
kind_of_groups front in_chinese groups rest =
    if is_pointed front in_chinese groups rest then Some Pointed
    else (if not (is_grouped front groups rest) then None
    else (if have_shape groups then Some Plain
    else (if have_signs is_bar groups && follows_word front then Some Barred else None)))

-- ---- Runs of figures

-- 05月, 08分: two figures of a date or a time
abbrev pub is_part_of_date : List ℕ → List ℕ → Bool
is_part_of_date run rest = length run == 2 && begins_with (codes "月日号號时時分秒点點元") rest

-- a zero and more figures
abbrev pub is_of_zero : List ℕ → List ℕ → Bool
is_of_zero run rest =
    nat_le 2 (length run) && (begins_zero run && not (is_part_of_date run rest))

-- a number of a room is directly after the words of a building
abbrev pub is_in_building : List ℕ → List ℕ → Bool
is_in_building front rest =
    follows_building front && not (begins_counted rest || begins_with (codes "多余餘来來") rest)

abbrev pub is_room : List ℕ → List ℕ → List ℕ → Bool
is_room front run rest =
    (length run == 3 || length run == 4) && (begins_room rest || is_in_building front rest)

abbrev pub is_year : List ℕ → List ℕ → List ℕ → Bool
is_year front run rest =
    (length run == 4 && begins_century run)
    && (begins_of_year rest || (begins_with (codes "〔") front || is_title_open 40 front))

-- no measure word is after a number, and no sign of money before it
abbrev pub is_uncounted : List ℕ → List ℕ → Bool
is_uncounted front rest =
    not (begins_counted rest) && not (begins_with (codes "¥￥$") front)

-- a number of a telephone
abbrev pub is_telephone : List ℕ → List ℕ → List ℕ → Bool
is_telephone front run rest =
    is_mobile run
    || (not (begins_counted rest) && (is_service run || is_called front run))

-- a number by its words: of a room, a route, a year or a generation
abbrev pub is_numbered : List ℕ → List ℕ → List ℕ → Bool
is_numbered front run rest =
    is_room front run rest
    || ((length run == 3 && begins_route rest)
    || (is_year front run rest || is_generation front run rest))

abbrev pub round_ends : List (List ℕ)
round_ends = codes "00000" ∷ []

-- the run ends with five zeros: it is a number, as 1500000
abbrev pub is_round : List ℕ → Bool
is_round run = ends_any round_ends (reverse run)

-- seven figures or more that are no round number, or three or more after a word of codes
abbrev pub is_long : List ℕ → List ℕ → Bool
is_long front run =
    (nat_le 7 (length run) && not (is_round run)) || (nat_le 3 (length run) && follows_word front)

-- a run of figures is a code
abbrev pub is_code_of_figures : List ℕ → List ℕ → List ℕ → Bool
is_code_of_figures front run rest =
    is_telephone front run rest
    || (is_of_zero run rest
    || (is_numbered front run rest || (is_uncounted front rest && is_long front run)))

-- exactly three figures are at the start of a text
abbrev pub begins_group : List ℕ → Bool
begins_group text = length (leading is_figure text) == 3

-- three figures after a figure and a comma, or up to three before a comma and three: 1,280
abbrev pub has_comma : List ℕ → List ℕ → List ℕ → Bool
has_comma front run rest =
    (begins_with (codes ",") front && (begins is_figure (drop 1 front) && length run == 3))
    || (begins_with (codes ",") rest && (begins_group (drop 1 rest) && nat_le (length run) 3))

-- three figures after a figure and a blank: 000 of 3 000
abbrev pub is_after_blank : List ℕ → List ℕ → Bool
is_after_blank front run =
    length run == 3 && (begins_with (codes " ") front && begins is_figure (drop 1 front))

-- the run of figures is a code, and no part of a number with commas or blanks
abbrev pub is_figures : List ℕ → List ℕ → List ℕ → Bool
is_figures front run rest =
    (not (touches_after rest) && (not (has_comma front run rest) && not (is_after_blank front run)))
    && (if follows_letters front then nat_le 3 (length run)
    else not (touches_before front) && is_code_of_figures front run rest)

-- ---- Runs of Chinese digits

-- Chinese digits after letters are a code; two count nothing: G四五, but not A三五个
abbrev pub is_name : List ℕ → List ℕ → List ℕ → Bool
is_name front run rest =
    follows_letters front
    && (nat_le 3 (length run)
    || (begins_after_name rest || (nat_le 2 (length run) && not (begins_counted rest))))

-- three digits or more are a code
abbrev pub are_digits : List ℕ → List ℕ → List ℕ → Bool
are_digits front run rest =
    list_any is_yao run
    || (begins_zero run
    || (is_mobile run
    || (follows_word front
    || ((nat_le (length run) 4 && is_in_building front rest)
    || (nat_le 7 (length run) && not (rise_from 0 run))))))

-- Chinese digits do not go on with a unit, a point or a letter
abbrev pub is_whole : List ℕ → Bool
is_whole rest =
    not (begins is_ascii_alphabetic rest)
    && not (begins_with (codes "点點年月十百千万萬亿億两兩廿") rest)

-- a run of Chinese digits is a code
abbrev pub is_digits : List ℕ → List ℕ → List ℕ → Bool
is_digits front run rest =
    is_whole rest
    && (if begins is_ascii_alphabetic front then is_name front run rest
    else nat_le 3 (length run) && are_digits front run rest)

-- ---- Codes

abbrev pub is_run : List ℕ → Bool → List ℕ → List ℕ → Bool
is_run front in_chinese run rest =
    if in_chinese then is_digits front run rest else is_figures front run rest

abbrev pub run_code : List ℕ → Bool → List ℕ → List ℕ → Option Code
run_code front in_chinese run rest =
    if is_run front in_chinese run rest then Some (record { kind = Plain; rest = rest }) else None

abbrev pub groups_code : List ℕ → Bool → List Group → List ℕ → Option Code
groups_code front in_chinese groups rest =
    option_map (λ kind. record { kind = kind; rest = rest }) (kind_of_groups front in_chinese groups rest)

-- a code of digits of one kind
abbrev pub code_by : List ℕ → Bool → (ℕ → Bool) → (ℕ → Bool) → List ℕ → Option Code
code_by front in_chinese is_digit is_sign text =
    let groups = groups_of is_digit is_sign text in
    option_or (groups_code front in_chinese groups (after_groups groups text))
    (run_code front in_chinese (leading is_digit text) (after_leading is_digit text))

unfoldable pub is_between_chinese : ℕ → Bool
is_between_chinese c = char_set_contains (codes "-杠 点點") c

unfoldable pub is_between_figures : ℕ → Bool
is_between_figures c = char_set_contains (codes "-. ") c

-- Chinese digits are not a part of a numeral before them
abbrev pub ends_numeral : List ℕ → Bool
ends_numeral front = begins_with (codes "十百千万萬亿億点點第") front

-- the code that begins with a text, if one does; the characters before it are `front`, the nearest
-- first
abbrev pub code_at : List ℕ → List ℕ → Option Code
code_at front text =
    if begins is_figure text && not (begins is_figure front)
    then code_by front false is_figure is_between_figures text
    else (if begins is_chinese text && (not (begins is_chinese front) && not (ends_numeral front))
    then code_by front true is_chinese is_between_chinese text
    else None)
