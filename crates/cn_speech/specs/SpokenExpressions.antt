-- Expressions as they are spoken, with the measures after them.
use Rattle.std.specs.Prelude.{ℕ, ◌==◌, Bool, false, not, ◌&&◌, ◌||◌, List, [], ◌∷◌, ◌++◌, length, drop, codes, is_some, if◌then◌else◌}
use Rattle.std.specs.List.{list_all}
use Rattle.std.specs.Option.{option_map_or}
use Rattle.cn_core.specs.FigureCharacters.{is_currency, is_figure, is_figure_minus}
use Rattle.cn_find.specs.Belongs.{begins_with}
use Rattle.cn_find.specs.Expressions.{is_han}
use Rattle.cn_find.specs.Words.{begins_with_two, is_exactly}
use Rattle.cn_phrase.specs.Ranges.{is_link}
use Rattle.cn_replace.specs.Pieces.{after_leading, begins}
use Rattle.cn_codes.specs.Counted.{is_counted_by_two, without_blank}
use Rattle.cn_codes.specs.Digits.{begins_zero}
use Rattle.cn_codes.specs.Words.{begins_any, ends_any}
use Rattle.cn_speech.specs.declared.voice.Voice.{Voice}
use Rattle.cn_speech.specs.Joined.{is_joined_after, is_joined_before, may_be_short_year}
use Rattle.cn_speech.specs.Measures.{is_degrees, measure_at}
use Rattle.cn_speech.specs.Numbers.{is_number, is_of_figures, number_said, one_by_one, trimmed}
use Rattle.cn_speech.specs.Voice.{two, word}

-- ---- Measures after a number

-- the text after the measure with which a text begins, or all of it
abbrev pub after_measure : List ℕ → List ℕ
after_measure rest = option_map_or (λ m. m.rest) (measure_at rest) rest

-- what is said for that measure
abbrev pub measure_said : Voice → List ℕ → List ℕ
measure_said voice rest = option_map_or (λ m. word voice m.text) (measure_at rest) []

-- ---- 两

-- a measure before which 2 is 两: not one of degrees, of data, or #
abbrev pub counts_two : List ℕ → Bool
counts_two spoken =
    begins is_han spoken && (not (is_degrees spoken) && not (begins_with (codes "号") spoken))

abbrev pub begins_measure : List ℕ → Bool
begins_measure rest = option_map_or (λ m. counts_two m.text) (measure_at rest) false

-- words that begin as measure words do, and count no two
abbrev pub no_measures : List (List ℕ)
no_measures =
    codes "年级" ∷ codes "年級" ∷ codes "人民" ∷ codes "人称" ∷ codes "人稱" ∷ codes "小学" ∷ codes "小學"
    ∷ codes "小组" ∷ codes "小組" ∷ codes "分之" ∷ codes "家庭" ∷ codes "部门" ∷ codes "部門" ∷ codes "本科"
    ∷ codes "成都" ∷ codes "国道" ∷ codes "國道" ∷ codes "国籍" ∷ codes "國籍" ∷ codes "平方根" ∷ []

unfoldable pub begins_no_measure : List ℕ → Bool
begins_no_measure text = begins_any no_measures text

-- words after which a number is an ordinal, or a year
abbrev pub ordinals : List (List ℕ)
ordinals =
    codes "第" ∷ codes "公元" ∷ codes "公元前" ∷ codes "第1、" ∷ codes "第1和" ∷ codes "第1或" ∷ codes "第1与" ∷ codes "第1與"
    ∷ codes "民国" ∷ codes "民國" ∷ codes "昭和" ∷ codes "平成" ∷ codes "令和" ∷ []

unfoldable pub ends_ordinal : List ℕ → Bool
ends_ordinal front = ends_any ordinals front

-- a measure word before which 2 is 两 is after a number, perhaps after a blank
abbrev pub begins_counted_by_two : List ℕ → Bool
begins_counted_by_two rest =
    begins is_counted_by_two (without_blank rest) && not (begins_no_measure (without_blank rest))

-- the number is 2 alone
abbrev pub is_two_alone : List ℕ → Bool
is_two_alone written =
    is_exactly (codes "2") written
    || (is_exactly (codes "２") written || is_exactly (codes "二") written)

-- 2 alone is 两 before a measure word or a measure, but not after 第
abbrev pub is_counted_two : List ℕ → List ℕ → List ℕ → Bool
is_counted_two front written rest =
    is_two_alone written
    && (not (ends_ordinal front) && (begins_counted_by_two rest || begins_measure rest))

-- ---- Signs before a number

abbrev pub is_below_zero : List ℕ → Bool
is_below_zero written = begins_with_two (codes "零") (codes "下") written

abbrev pub is_negative : List ℕ → Bool
is_negative written = begins is_figure_minus written || begins_with (codes "负負") written

-- an expression without a minus sign or 零下
abbrev pub without_minus : List ℕ → List ℕ
without_minus written =
    if is_below_zero written then drop 2 written
    else (if is_negative written then drop 1 written else written)

-- a measure of degrees is after a number, or after the number to which it is linked
abbrev pub begins_degrees : List ℕ → Bool
begins_degrees rest =
    option_map_or (λ m. is_degrees m.text) (measure_at rest) (begins_with (codes "度") rest)

abbrev pub is_number_of_degrees : List ℕ → Bool
is_number_of_degrees text =
    begins is_figure text && begins_degrees (after_leading is_of_figures text)

abbrev pub links_degrees : List ℕ → Bool
links_degrees rest =
    begins is_link rest && is_number_of_degrees (after_leading is_figure_minus (drop 1 rest))

abbrev pub has_degrees : List ℕ → Bool
has_degrees rest = begins_degrees rest || links_degrees rest

-- what is said for a minus sign or 零下
abbrev pub minus_said : Voice → List ℕ → List ℕ → List ℕ
minus_said voice written rest =
    if is_below_zero written then word voice (codes "零下")
    else (if not (is_negative written) then []
    else (if has_degrees rest then word voice (codes "零下") else word voice (codes "负")))

-- ---- Expressions

-- an expression without its signs; after ¥ without the zeros at the end of its decimals
abbrev pub without_signs : List ℕ → List ℕ
without_signs written =
    if begins is_currency (without_minus written) then trimmed (drop 1 (without_minus written))
    else without_minus written

-- 元 after a number that has ¥ before it
abbrev pub yuan_said : Voice → List ℕ → List ℕ
yuan_said voice written =
    if begins is_currency (without_minus written) then word voice (codes "元") else []

-- only figures follow a bar after a Han character, and no measure word or measure follows them, as
-- in 歼-20 and 附件-2: the bar may be no minus sign
abbrev pub is_after_bar : List ℕ → List ℕ → List ℕ → Bool
is_after_bar front written rest =
    begins_with (codes "-") written
    && ((begins is_han front && not (begins_with (codes "为為是约約达達到至于於得值温溫") front))
    && (list_all is_figure (drop 1 written)
    && not (begins_counted_by_two rest || is_some (measure_at rest))))

-- an expression is read as a number, and is no part of anything else
abbrev pub is_expression_said : List ℕ → List ℕ → List ℕ → Bool
is_expression_said front written rest =
    is_number (without_signs written)
    && (not (is_joined_before front written rest)
    && (not (is_joined_after written (after_measure rest))
    && (not (may_be_short_year written rest) && not (is_after_bar front written rest))))

-- a discount of two figures, neither of them 0, is before 折: 95折
abbrev pub is_discount : List ℕ → List ℕ → Bool
is_discount written rest =
    length written == 2
    && (not (begins_zero written)
    && (not (begins_zero (drop 1 written)) && begins_with (codes "折") rest))

-- an expression that is no 2 alone; a discount is spoken digit by digit
abbrev pub number_or_digits : Voice → List ℕ → List ℕ → List ℕ → List ℕ
number_or_digits voice front written rest =
    if is_discount written rest then one_by_one voice written
    else number_said voice front (without_signs written)

-- what is said for an expression without its signs, between these characters
abbrev pub counted_said : Voice → List ℕ → List ℕ → List ℕ → List ℕ
counted_said voice front written rest =
    if is_counted_two front written rest then two voice
    else number_or_digits voice front written rest

-- what is said for an expression and the measure after it
abbrev pub expression_said : Voice → List ℕ → List ℕ → List ℕ → List ℕ
expression_said voice front written rest =
    minus_said voice written rest
    ++ (counted_said voice front written rest
    ++ (yuan_said voice written ++ measure_said voice rest))
