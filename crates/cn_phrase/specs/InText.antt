-- A text with its phrases and expressions in figures.
use Rattle.std.specs.Prelude.{ℕ, ◌%◌, ◌==◌, nat_lt, Bool, true, false, not, ◌&&◌, ◌||◌, List, [], ◌++◌, codes, chars, Option, Some, None, is_some, unwrap_or, if◌then◌else◌}
use Rattle.std.specs.Char.{char_set_contains}
use Rattle.std.specs.List.{list_any}
use Rattle.std.specs.Option.{option_map_or}
use Rattle.cn_core.specs.declared.method.ChineseCountMethod.{ChineseCountMethod}
use Rattle.cn_core.specs.FigureCharacters.{is_figure}
use Rattle.cn_find.specs.declared.wanted.Wanted.{Wanted}
use Rattle.cn_find.specs.Flags.{is_one_character}
use Rattle.cn_find.specs.Spans.{Span, in_front}
use Rattle.cn_find.specs.Words.{begins_with_two, ends_old_calendar, is_title_open}
use Rattle.cn_replace.specs.declared.options.Figures.{Figures}
use Rattle.cn_replace.specs.declared.options.Included.{Included}
use Rattle.cn_replace.specs.Chains.{in_chains}
use Rattle.cn_replace.specs.InFigures.{figures_for}
use Rattle.cn_replace.specs.Pieces.{after_leading, begins, leading}
use Rattle.cn_phrase.specs.declared.form.Form.{Form}
use Rattle.cn_phrase.specs.declared.form.Form.TheVariants as form
use Rattle.cn_phrase.specs.declared.phrase.Lead.{Lead}
use Rattle.cn_phrase.specs.declared.phrase.Lead.TheVariants.{Bare}
use Rattle.cn_phrase.specs.declared.word.Word.TheVariants as word
use Rattle.cn_phrase.specs.Compact.{compact_text}
use Rattle.cn_phrase.specs.Forms.{pieces_of}
use Rattle.cn_phrase.specs.Items.{Item, phrase, money, range, expression, item_at, items}
use Rattle.cn_phrase.specs.Phrases.{Found, after_lead}
use Rattle.cn_phrase.specs.Pieces.{is_numeral, reading_at}
use Rattle.cn_phrase.specs.MoneyText.{money_new}
use Rattle.cn_phrase.specs.Ranges.{Ends, is_doubtful_end, range_of, range_text}
use Rattle.cn_phrase.specs.Values.{value_by}
use Rattle.cn_phrase.specs.Words.{after_two, after_word}
use Rattle.cn_phrase.specs.Written.{passed_text, pieces_text}

-- a year in figures that ends with 00, before 前, 来, 历 or 间: it may be a number of years
abbrev pub may_be_years : Form → ℕ → List ℕ → List ℕ → Bool
may_be_years form.Year year text rest =
    year % 100 == 0 && (begins is_figure text
    && begins (λ c. char_set_contains (codes "前来來历歷间間") c) rest)
may_be_years other year text rest = false

-- a number has 十 or 百
abbrev pub has_unit : List ℕ → Bool
has_unit number = list_any (λ c. char_set_contains (codes "十百") c) number

-- a date, not only of a month or a day, and not in figures with signs
abbrev pub is_of_year : Form → Bool
is_of_year form.YearMonthDay = true
is_of_year form.YearMonth = true
is_of_year other = false

abbrev pub is_of_calendar : Form → Bool
is_of_calendar form.MonthDay = true
is_of_calendar form.Year = true
is_of_calendar form.PartOfMonth = true
is_of_calendar other = is_of_year other

-- 民國 is directly before the text: in Taiwan its years are those of every day
abbrev pub follows_republic : List ℕ → Bool
follows_republic front = begins_with_two (codes "國") (codes "民") front

-- a date whose year is one character or has 十 or 百, such as 民国二十六年七月七日: it is one of an era, whose
-- dates stay in characters
abbrev pub is_of_era : List ℕ → Form → List ℕ → Bool
is_of_era front form text =
    is_of_year form
    && (not (follows_republic front)
    && (has_unit (leading is_numeral text) || is_one_character (leading is_numeral text)))

-- a date of an era, or of the calendar of the moon
abbrev pub is_of_old_calendar : List ℕ → Form → List ℕ → Bool
is_of_old_calendar front form text =
    is_of_era front form text || (is_of_calendar form && ends_old_calendar front)

abbrev pub is_minute : Form → Lead → Bool
is_minute form.HourMinute Bare = true
is_minute other lead = false

-- an hour with 点 and a minute of one digit, as in 十四点六分, not after a day: it may be a decimal
abbrev pub may_be_decimal : List ℕ → Found → List ℕ → Bool
may_be_decimal front found text =
    (is_minute found.form found.lead && nat_lt found.numbers.last 10 && not (begins (λ c. char_set_contains (codes "日号號") c) front))
    && option_map_or (λ rest. is_one_character (leading is_numeral rest))
    (after_word word.Dian (after_leading is_numeral text)) false

-- a circle is directly before the text: it may be a zero, as in 二○二六年三月
abbrev pub follows_circle : List ℕ → Bool
follows_circle front = begins (λ c. char_set_contains (codes "○◯") c) front

-- 一时半会 or 一时半刻: a short while, no time of day
abbrev pub is_short_while : List ℕ → Bool
is_short_while text = option_map_or
    (λ rest. is_some (after_two (codes "半") (codes "会會刻") rest))
    (after_two (codes "一") (codes "时時") text) false

-- a phrase that begins with this text may mean something else, is a date of another calendar, is in a
-- title, or may begin further in front
abbrev pub is_doubtful : List ℕ → Found → List ℕ → Bool
is_doubtful front found text =
    may_be_years found.form found.numbers.last text found.rest
    || (is_of_old_calendar front found.form text
    || (may_be_decimal front found text
    || (is_short_while text || (follows_circle front || is_title_open 40 front))))

-- a range before 折 or 成: its numbers are tenths
abbrev pub is_of_tenths : Ends → Bool
is_of_tenths ends = begins (λ c. char_set_contains (codes "折成") c) ends.rest

-- a range of tenths, or one with a doubtful end
abbrev pub is_range_doubtful : Ends → Bool
is_range_doubtful ends = is_of_tenths ends || (is_doubtful_end ends.low || is_doubtful_end ends.high)

abbrev pub is_half : Form → Bool
is_half form.HalfOf = true
is_half form.HalfAfter = true
is_half other = false

-- a half after one Chinese character, as in 一个半小时
abbrev pub is_short_half : Form → List ℕ → Bool
is_short_half form text = is_half form && is_one_character (leading is_numeral text)

-- a phrase that begins with this text is written in figures: it has a value, and if it is doubtful, or
-- a half after one character, phrases of that kind are included; a half has a shortest form
abbrev pub is_phrase_included : Figures → List ℕ → Found → List ℕ → Bool
is_phrase_included options front found text =
    is_some (value_by found.form found.numbers)
    && ((options.included.doubtful || not (is_doubtful front found text))
    && (options.compact || (options.included.one_character || not (is_short_half found.form text))))

abbrev pub is_range_included : Included → Ends → Bool
is_range_included included ends =
    is_some (range_of ends.low.text ends.high.text) && (included.doubtful || not (is_range_doubtful ends))

-- the text of a phrase with its numbers in figures
abbrev pub phrase_text : Found → List ℕ → List ℕ
phrase_text found text = option_map_or (λ start. passed_text text start
    ++ pieces_text (pieces_of found.form) (reading_at start)) (after_lead found.lead text) []

-- the text of a phrase in figures, by choice in its shortest form if it has one
abbrev pub phrase_written : Bool → List ℕ → Found → List ℕ → List ℕ
phrase_written compact front found text =
    if compact then unwrap_or (compact_text front found text) (phrase_text found text)
    else phrase_text found text

-- the new text of a phrase, if it has one
abbrev pub phrase_new : Figures → List ℕ → Found → List ℕ → Option (List ℕ)
phrase_new options front found text =
    if is_phrase_included options front found text
    then Some (phrase_written options.compact front found text) else None

-- the new text of a range, if it has one
abbrev pub range_new : Figures → Ends → Option (List ℕ)
range_new options ends =
    if is_range_included options.included ends then range_text options.style ends else None

-- the new text of an item that begins with this text
abbrev pub item_text : ChineseCountMethod → Figures → Span → List ℕ → Option Item → Option (List ℕ)
item_text method options span text None = None
item_text method options span text (Some (phrase found)) =
    phrase_new options (in_front span.before) found text
item_text method options span text (Some (money m)) = money_new method options (in_front span.before) m
item_text method options span text (Some (range ends)) = range_new options ends
item_text method options span text (Some (expression rest)) = figures_for method options span

-- the new text of an item of a text
unfoldable pub text_for_item : ChineseCountMethod → Figures → Wanted → Span → Option (List ℕ)
text_for_item method options wanted span =
    let text = chars (span.text ++ span.after) in
    item_text method options span text (item_at wanted (in_front span.before) text)

-- an item without figures that is left unchanged holds all that it is joined to
unfoldable pub item_holds : ChineseCountMethod → Figures → Wanted → Span → Bool
item_holds method options wanted span =
    not (list_any is_figure (chars span.text))
    && not (is_some (text_for_item method options wanted span))

-- a text with its phrases and expressions in figures
unfoldable pub text_in_figures : ChineseCountMethod → Figures → Wanted → List ℕ → List ℕ
text_in_figures method options wanted bytes =
    in_chains (text_for_item method options wanted) (item_holds method options wanted) bytes
    (items wanted bytes)
