-- A phrase in its shortest form: 2026-01-05, 15:30, 1.5小时.
use Rattle.std.specs.Prelude.{ℕ, ◌+◌, ◌*◌, nat_le, nat_lt, ◌&&◌, ◌||◌, Bool, true, false, List, [], ◌∷◌, ◌++◌, codes, take, encode_utf8_all, pos, Option, Some, None, is_some, if◌then◌else◌}
use Rattle.std.specs.Char.{char_set_contains}
use Rattle.std.specs.Option.{option_and_then, option_map, option_map_or}
use Rattle.cn_core.specs.FigureCharacters.{is_figure}
use Rattle.cn_find.specs.Words.{begins_with_two}
use Rattle.cn_quantity.specs.declared.quantity.QuantityForm.TheVariants.{Decimal, Whole}
use Rattle.cn_quantity_text.specs.Figures.{figures_text}
use Rattle.cn_replace.specs.KeptNumbers.{and_text}
use Rattle.cn_replace.specs.Pieces.{after_leading, begins}
use Rattle.cn_phrase.specs.declared.form.Form.{Form}
use Rattle.cn_phrase.specs.declared.form.Form.TheVariants as form
use Rattle.cn_phrase.specs.declared.phrase.Lead.{Lead}
use Rattle.cn_phrase.specs.declared.phrase.Lead.TheVariants.{HalfDay, Weekday}
use Rattle.cn_phrase.specs.declared.value.Time.{Time}
use Rattle.cn_phrase.specs.declared.value.Value.{Value}
use Rattle.cn_phrase.specs.declared.value.Value.TheVariants as value
use Rattle.cn_phrase.specs.declared.word.Word.TheVariants as word
use Rattle.cn_phrase.specs.Hours.{hour_of_day}
use Rattle.cn_phrase.specs.Phrases.{Found, after_lead}
use Rattle.cn_phrase.specs.Pieces.{is_numeral, without_blank}
use Rattle.cn_phrase.specs.Values.{value_by}
use Rattle.cn_phrase.specs.Words.{after_halved, after_two, after_word}
use Rattle.cn_phrase.specs.Written.{passed_text}

-- a whole number in figures
abbrev pub whole_text : ℕ → List ℕ
whole_text n = figures_text (record { numerator = pos n; denominator = 1; form = Whole })

-- a number in two figures or more
unfoldable pub two_figures : ℕ → List ℕ
two_figures n = (if nat_lt n 10 then codes "0" else []) ++ whole_text n

unfoldable pub after_dash : ℕ → List ℕ
after_dash n = codes "-" ++ two_figures n

unfoldable pub after_colon : ℕ → List ℕ
after_colon n = codes ":" ++ two_figures n

unfoldable pub parts_text : ℕ → ℕ → ℕ → List ℕ
parts_text y m d = whole_text y ++ (after_dash m ++ after_dash d)

-- a date that has a year of four digits, a month and a day
unfoldable pub date_text : Option ℕ → Option ℕ → Option ℕ → Option (List ℕ)
date_text (Some y) (Some m) (Some d) =
    if nat_le 1000 y && nat_lt y 10000 then Some (parts_text y m d) else None
date_text y m d = None

-- the form has seconds
abbrev pub has_seconds : Form → Bool
has_seconds form.HourMinuteSecond = true
has_seconds form.ColonSecond = true
has_seconds other = false

unfoldable pub seconds_text : Form → ℕ → List ℕ
seconds_text form second = if has_seconds form then after_colon second else []

-- an hour of 24, minutes, and seconds if the form has them
unfoldable pub clock_text : Form → ℕ → Time → List ℕ
clock_text form hour time =
    two_figures hour ++ (after_colon time.minute ++ seconds_text form time.second)

-- the weekday before a time, which stays; a word of half a day does not
unfoldable pub lead_text : Lead → List ℕ → List ℕ
lead_text Weekday text = option_map_or (passed_text text) (after_lead Weekday text) []
lead_text other text = []

-- the text after the first number
abbrev pub after_number : List ℕ → List ℕ
after_number text = without_blank (begins is_figure text) (after_leading is_numeral text)

-- a number with a unit of dates or times that is no year, such as 8日
unfoldable pub begins_part : List ℕ → Bool
begins_part text =
    begins is_numeral text
    && begins (λ c. char_set_contains (codes "月日号號点點时時:：") c) (after_number text)

-- the character may be between two dates or times
unfoldable pub is_joint : ℕ → Bool
is_joint c = char_set_contains (codes "到至~～－–—〜-、，,和或与與及跟") c

-- the text goes on with a number for which the words before it count too: 2026年1月5日到8日, 下午3点和5点
unfoldable pub goes_on : List ℕ → Bool
goes_on [] = false
goes_on (c ∷ rest) = is_joint c && begins_part rest

-- a word of half a day, with which a text begins, also says which day it is, as 今晚 and 每晚 do, or is a
-- part of a longer word, such as 清早
unfoldable pub names_day : List ℕ → List ℕ → Bool
names_day front text =
    begins (λ c. char_set_contains (codes "今明昨当當") c) text
    || begins (λ c. char_set_contains (codes "每那这這次翌同隔前后後首大清夜早") c) front

-- a word of half a day says more than which half it is: the day, or the half of what comes next; or it is
-- between two numbers
unfoldable pub needs_lead : Lead → List ℕ → List ℕ → List ℕ → Bool
needs_lead HalfDay front text rest =
    names_day front text || (begins is_numeral front || goes_on rest)
needs_lead other front text rest = false

-- what is after a time belongs to its last word: 八点钟, 八点多, 八点许, 八点整, 八点档; 八点半价, 八点半成品
unfoldable pub is_in_words : List ℕ → Bool
is_in_words rest =
    begins (λ c. char_set_contains (codes "钟鐘多许許余餘来來整档檔价價") c) rest
    || begins_with_two (codes "成") (codes "品") rest

unfoldable pub moment_text : Found → List ℕ → ℕ → Time → List ℕ
moment_text found text hour time =
    lead_text found.lead text ++ clock_text found.form hour time

-- a time whose hour of 24 is known, and that need not stay in words
unfoldable pub time_text : List ℕ → Found → List ℕ → Time → Option (List ℕ)
time_text front found text time =
    if needs_lead found.lead front text found.rest || is_in_words found.rest
    then None
    else option_map (λ hour. moment_text found text hour time) (hour_of_day found.lead text time)

-- a blank, if a number or a word of half a day is directly after a date or a time
unfoldable pub blank_before : List ℕ → List ℕ
blank_before rest =
    if begins is_numeral rest || is_some (after_word word.HalfDay rest) then codes " " else []

-- the word after 个半 of a half, with 个 if it is not 小时: 1.5小时, 1.5个月
unfoldable pub counted_text : List ℕ → List ℕ → List ℕ
counted_text text words =
    (if begins (λ c. char_set_contains (codes "小") c) words then [] else encode_utf8_all (take 1 text))
    ++ option_map_or (passed_text words) (after_halved words) []

-- the words of a half, of which this is the text after its number
unfoldable pub unit_text : Form → List ℕ → List ℕ
unit_text form.HalfOf text =
    option_map_or (counted_text text) (after_two (codes "个個") (codes "半") text) []
unit_text other text = encode_utf8_all (take 1 text)

-- a number and a half, with its unit
unfoldable pub half_text : Form → ℕ → List ℕ → List ℕ
half_text form n text =
    figures_text (record { numerator = pos (10 * n + 5); denominator = 10; form = Decimal })
    ++ unit_text form (after_number text)

unfoldable pub text_of_value : List ℕ → Found → List ℕ → Value → Option (List ℕ)
text_of_value front found text (value.Date date) =
    if goes_on found.rest then None
    else and_text (date_text date.year date.month date.day) (Some (blank_before found.rest))
text_of_value front found text (value.Time time) =
    and_text (time_text front found text time) (Some (blank_before found.rest))
text_of_value front found text (value.Half n) = Some (half_text found.form n text)
text_of_value front found text other = None

-- the shortest form of a phrase that begins with this text, if it has one
unfoldable pub compact_text : List ℕ → Found → List ℕ → Option (List ℕ)
compact_text front found text =
    option_and_then (text_of_value front found text) (value_by found.form found.numbers)
