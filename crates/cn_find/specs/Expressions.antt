-- Which characters of a text belong to an expression: a number with its sign, figures, point and
-- units, a percentage, or a fraction. Of the characters before one (`front`) the nearest is the
-- first in the list.
use Rattle.std.specs.Prelude.{ℕ, zero, suc, nat_le, Bool, false, not, ◌&&◌, ◌||◌, List, [], ◌∷◌, codes, is_some}
use Rattle.std.specs.Char.{char_set_contains, is_ascii_alphabetic}
use Rattle.cn_core.specs.Characters.{digit_of}
use Rattle.cn_core.specs.FigureCharacters.{is_comma, is_currency, is_figure, is_figure_minus, is_figure_point, is_share_sign, is_wide_figure, tens_of}
use Rattle.cn_core.specs.Mark.{Mark, mark_of}
use Rattle.cn_find.specs.declared.wanted.Wanted.{Wanted}
use Rattle.cn_find.specs.Belongs.{begins_with, belongs, first_is, first_then, is_chinese_digit, is_ge, is_unit_from, is_wanted}
use Rattle.cn_find.specs.Flags.{is_any_digit}
use Rattle.cn_find.specs.Rule.{Rule}

-- the character is 廿 or 卅
unfoldable pub is_tens : ℕ → Bool
is_tens c = is_some (tens_of c)

-- the character is a numeral character: it belongs to a number, or is 廿, 卅 or a full-width figure
unfoldable pub is_numeric : Wanted → ℕ → List ℕ → Bool
is_numeric wanted c after = belongs wanted c after || (is_tens c || is_wide_figure c)

-- the characters begin with a numeral character
abbrev pub begins_numeral : Wanted → List ℕ → Bool
begins_numeral wanted [] = false
begins_numeral wanted (c ∷ after) = is_numeric wanted c after

-- the nearest character in `front` is a numeral character, as if nothing followed it
abbrev pub ends_numeral : Wanted → List ℕ → Bool
ends_numeral wanted front = first_is (λ c. is_numeric wanted c []) front

-- the characters begin with one of 分刻十点, which make a time of 点 and the digit before them, as
-- in 九点五分
abbrev pub begins_time : List ℕ → Bool
begins_time after = begins_with (codes "分刻十点點") after

-- the characters begin with a digit of any kind and then one of those
abbrev pub begins_minutes : List ℕ → Bool
begins_minutes after = first_then is_any_digit begins_time after

-- the character makes a word with a 一 before it, as 起 does
unfoldable pub follows_one : ℕ → Bool
follows_one c = char_set_contains (codes "定直起样樣些下切滴线線") c

-- the digit after 点 begins a time, as 零 in 三点零五分, or a word, as 一 in 三点一起走
unfoldable pub begins_word : ℕ → List ℕ → Bool
begins_word c after =
    begins_time after || (char_set_contains (codes "零〇") c && begins_minutes after)
    || (char_set_contains (codes "一") c && first_is follows_one after)

-- the characters begin with a wanted Chinese digit that begins neither a time nor a word
abbrev pub begins_decimals : Wanted → List ℕ → Bool
begins_decimals wanted [] = false
begins_decimals wanted (c ∷ after) =
    (is_chinese_digit c && is_wanted wanted c) && not (begins_word c after)

-- the mark is a unit from 百 up
abbrev pub is_multiplier : Mark → Bool
is_multiplier mark = is_unit_from 2 mark

-- the mark is a unit from 十 up
abbrev pub is_power : Mark → Bool
is_power mark = is_unit_from 1 mark

-- the characters begin with a wanted unit that is 個 or a unit from 百 up
abbrev pub begins_counted : Wanted → List ℕ → Bool
begins_counted wanted after =
    first_is (λ c. is_wanted wanted c && (is_multiplier (mark_of c) || is_ge (mark_of c))) after

-- 两 as a weight: it is directly after a numeral character and does not count a unit
unfoldable pub is_weight : Wanted → List ℕ → ℕ → List ℕ → Bool
is_weight wanted front c after =
    char_set_contains (codes "两兩") c
    && (ends_numeral wanted front && not (begins_counted wanted after))

-- the character is a Han character, from U+4E00 to U+9FFF
unfoldable pub is_han : ℕ → Bool
is_han c = nat_le 19968 c && nat_le c 40959

-- the characters begin with 万, and a Han character follows unless `may` is true
abbrev pub begins_wan : Bool → List ℕ → Bool
begins_wan may after =
    first_then (char_set_contains (codes "万萬")) (λ others. may || first_is is_han others) after

-- 個 before a word that begins with 万, as in 一個萬用字元: a Han character follows 万, or no
-- numeral character is before 個
unfoldable pub is_item : Wanted → List ℕ → ℕ → List ℕ → Bool
is_item wanted front c after =
    char_set_contains (codes "个個") c && begins_wan (not (ends_numeral wanted front)) after

-- the nearest character in `front` is a wanted unit from 十 up
abbrev pub ends_power : Wanted → List ℕ → Bool
ends_power wanted front = first_is (λ c. is_wanted wanted c && is_power (mark_of c)) front

-- the nearest characters in `front` are digits of any kind, and a point is before them
abbrev pub ends_decimals : List ℕ → Bool
ends_decimals [] = false
ends_decimals (c ∷ front) =
    is_any_digit c
    && (begins_with (codes "点點.．") front || ends_decimals front)

-- 千 as a part of a measure, as in 30亿千瓦时: it follows a unit from 十 up or decimals
unfoldable pub is_kilo : Wanted → List ℕ → ℕ → List ℕ → Bool
is_kilo wanted front c after =
    char_set_contains (codes "千仟") c
    && (begins_with (codes "瓦克米卡赫伏安焦帕") after
    && (ends_power wanted front || ends_decimals front))

-- the character belongs to a word that is not a number: it is 两 as a weight, 個 before a word with
-- 万, or 千 as a part of a measure
abbrev pub is_other_word : Wanted → List ℕ → ℕ → List ℕ → Bool
is_other_word wanted front c after =
    is_weight wanted front c after || (is_item wanted front c after || is_kilo wanted front c after)

-- the characters begin with three figures, and those after them pass the test `passes`
abbrev pub three_figures : (List ℕ → Bool) → List ℕ → Bool
three_figures passes text =
    first_then is_figure (first_then is_figure (first_then is_figure passes)) text

-- the characters begin with three figures and no fourth
abbrev pub begins_group : List ℕ → Bool
begins_group after = three_figures (λ others. not (first_is is_figure others)) after

-- the nearest characters in `front` are three figures, and a comma is before them
abbrev pub ends_group : List ℕ → Bool
ends_group front = three_figures (first_is is_comma) front

-- a figure after these characters begins a number: it is not 0, and no figure, comma or point is
-- directly before it
unfoldable pub begins_number : ℕ → List ℕ → Bool
begins_number c front =
    not (char_set_contains (codes "0０") c)
    && not (first_is (λ d. is_figure d || char_set_contains (codes ",.．") d) front)

-- the nearest characters in `front` are figures, at most `most` of them, and the first of these in
-- the text begins a number
abbrev pub ends_head : ℕ → List ℕ → Bool
ends_head zero front = false
ends_head (suc most) [] = false
ends_head (suc most) (c ∷ front) =
    is_figure c && (begins_number c front || ends_head most front)

-- a comma between these characters separates groups of figures
abbrev pub parts_groups : List ℕ → List ℕ → Bool
parts_groups front after = (ends_head 3 front || ends_group front) && begins_group after

-- the characters begin with a unit from 百 up that belongs to a number, or with a percent sign or ‰
abbrev pub begins_multiplier : Wanted → List ℕ → Bool
begins_multiplier wanted [] = false
begins_multiplier wanted (c ∷ after) =
    (is_multiplier (mark_of c) && belongs wanted c after) || is_share_sign c

-- the characters begin with a numeral character, or with a minus sign and a numeral character
abbrev pub begins_signed : Wanted → List ℕ → Bool
begins_signed wanted [] = false
begins_signed wanted (c ∷ after) =
    is_numeric wanted c after
    || (char_set_contains (codes "负負-−－") c && begins_numeral wanted after)

-- the characters begin with 之 and then with the start of a numerator: a numeral character, or a
-- minus sign and one
abbrev pub begins_numerator : Wanted → List ℕ → Bool
begins_numerator wanted after =
    first_then (char_set_contains (codes "之")) (begins_signed wanted) after

-- the characters begin with 分 and then with 之 and the start of a numerator
abbrev pub begins_bar : Wanted → List ℕ → Bool
begins_bar wanted after =
    first_then (char_set_contains (codes "分")) (begins_numerator wanted) after

-- the characters begin with numeral characters, then 分之 and the start of a numerator
abbrev pub begins_fraction : Wanted → List ℕ → Bool
begins_fraction wanted [] = false
begins_fraction wanted (c ∷ after) =
    is_numeric wanted c after && (begins_bar wanted after || begins_fraction wanted after)

-- the nearest character in `front` is 零, and no numeral character is before it
abbrev pub ends_zero : Wanted → List ℕ → Bool
ends_zero wanted front =
    first_then (char_set_contains (codes "零")) (λ others. not (ends_numeral wanted others)) front

-- the characters after 一 make a temperature of it, as 度 does in 零下一度, and not a word, as 步
-- does in 归零下一步
abbrev pub begins_degrees : Wanted → List ℕ → Bool
begins_degrees wanted after =
    begins_numeral wanted after || begins_with (codes "度点點摄攝℃") after

-- the characters begin with a number that 零下 can be before: with a figure, a wanted digit or 十,
-- but with 一 only if it is a temperature
abbrev pub begins_below_zero : Wanted → List ℕ → Bool
begins_below_zero wanted [] = false
begins_below_zero wanted (c ∷ after) =
    (is_figure c || (is_wanted wanted c && (is_some (digit_of c) || char_set_contains (codes "十") c)))
    && (not (char_set_contains (codes "一") c) || begins_degrees wanted after)

-- the nearest character in `front` is 分, and a numeral character is before it
abbrev pub ends_denominator : Wanted → List ℕ → Bool
ends_denominator wanted front =
    first_then (char_set_contains (codes "分")) (ends_numeral wanted) front

-- the nearest character in `front` is a blank, and a figure is before it
abbrev pub ends_spaced : List ℕ → Bool
ends_spaced front = first_then (char_set_contains (codes " ")) (first_is is_figure) front

-- the character makes a word with a 负 after it, as 抱 does
unfoldable pub precedes_minus : ℕ → Bool
precedes_minus c = char_set_contains (codes "正非背揹肩担擔抱胜勝辜欺自不") c

-- after this character `-` is not a sign: it is a letter, a percent sign, a bracket, a point, `_`,
-- a slash or a minus sign
unfoldable pub binds_minus : ℕ → Bool
binds_minus c =
    is_ascii_alphabetic c || char_set_contains (codes "%％‰)]}_.．/\\-−－") c

-- the characters begin with a figure, or with a currency sign and a figure
abbrev pub begins_sum : List ℕ → Bool
begins_sum after = first_is is_figure after || first_then is_currency (first_is is_figure) after

-- `-` can be a sign after these characters
abbrev pub may_precede_minus : Wanted → List ℕ → Bool
may_precede_minus wanted front = not (ends_numeral wanted front) && not (first_is binds_minus front)

-- the nearest character in `front` is a minus sign of figures, and it can be a sign there
abbrev pub ends_minus : Wanted → List ℕ → Bool
ends_minus wanted front = first_then is_figure_minus (may_precede_minus wanted) front

-- the character belongs to an expression because of the characters around it
unfoldable pub joins : Wanted → List ℕ → ℕ → List ℕ → Bool
joins wanted front c after =
    (char_set_contains (codes "点點") c
    && (not (first_is is_figure front) && (ends_numeral wanted front
    && begins_decimals wanted after)))
    || (is_figure_point c && (first_is is_figure front && first_is is_figure after))
    || (char_set_contains (codes ",") c && parts_groups front after)
    || (char_set_contains (codes "，") c
    && (parts_groups front after && (first_is is_wide_figure front
    && first_is is_wide_figure after)))
    || (char_set_contains (codes " ") c
    && (first_is is_figure front && begins_multiplier wanted after))
    || (char_set_contains (codes "分") c
    && (ends_numeral wanted front && begins_numerator wanted after))
    || (char_set_contains (codes "之") c
    && (ends_denominator wanted front && begins_signed wanted after))
    || (is_share_sign c && (ends_numeral wanted front || ends_spaced front))
    || (char_set_contains (codes "又") c
    && (ends_numeral wanted front && begins_fraction wanted after))
    || (char_set_contains (codes "下") c
    && (ends_zero wanted front && begins_below_zero wanted after))
    || (char_set_contains (codes "负負") c
    && (begins_numeral wanted after && (not (ends_numeral wanted front)
    && not (first_is precedes_minus front))))
    || (is_figure_minus c && (begins_sum after && may_precede_minus wanted front))
    || (is_currency c && (first_is is_figure after && ends_minus wanted front))

-- the character is one that expressions treat differently from numbers
unfoldable pub is_extra : ℕ → Bool
is_extra c =
    is_tens c || is_wide_figure c
    || char_set_contains (codes "点點.．,， 分之%％‰又下负負-−－¥￥两兩个個千仟") c

-- the character is a Chinese digit, 廿 or 卅
abbrev pub is_word_digit : ℕ → Bool
is_word_digit c = is_chinese_digit c || is_tens c

-- two neighbouring characters belong to different expressions: one is a figure, and the other a
-- Chinese digit, 廿 or 卅, unless it is 零 or 〇 before the figure; or the first is a percent sign
-- or ‰
unfoldable pub parts_expressions : ℕ → ℕ → Bool
parts_expressions c next =
    (is_figure c && is_word_digit next)
    || ((is_word_digit c && not (char_set_contains (codes "零〇") c)) && is_figure next)
    || is_share_sign c

-- the rule of expressions: a character belongs if it is a numeral character that does not belong to
-- another word, or because of the characters around it
abbrev pub expression_rule : Wanted → Rule
expression_rule wanted = record {
  belongs = λ front c after.
      (is_numeric wanted c after && not (is_other_word wanted front c after))
      || joins wanted front c after;
  is_parted = parts_expressions;
}
