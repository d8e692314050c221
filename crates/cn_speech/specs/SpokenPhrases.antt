-- A phrase as it is spoken: its words stay, its figures and signs become characters.
use Rattle.std.specs.Prelude.{ℕ, ◌%◌, ◌==◌, nat_lt, Bool, true, false, not, ◌&&◌, ◌||◌, List, [], ◌∷◌, ◌++◌, length, drop, codes, Some, None, is_some, if◌then◌else◌}
use Rattle.std.specs.Option.{option_map_or}
use Rattle.cn_core.specs.FigureCharacters.{is_figure}
use Rattle.cn_find.specs.Belongs.{begins_with}
use Rattle.cn_find.specs.Words.{begins_with_two, ends_old_calendar}
use Rattle.cn_phrase.specs.declared.form.Form.{Form}
use Rattle.cn_phrase.specs.declared.form.Form.TheVariants as form
use Rattle.cn_phrase.specs.declared.piece.Numbers.{Numbers}
use Rattle.cn_phrase.specs.declared.piece.Piece.{Piece}
use Rattle.cn_phrase.specs.declared.piece.Piece.TheVariants.{Slot, Fixed, NotBefore, End}
use Rattle.cn_phrase.specs.declared.shape.Shape.{Shape}
use Rattle.cn_phrase.specs.declared.shape.Shape.TheVariants as shape
use Rattle.cn_phrase.specs.declared.word.Word.{Word}
use Rattle.cn_phrase.specs.declared.word.Word.TheVariants as word
use Rattle.cn_phrase.specs.Between.{characters_before}
use Rattle.cn_phrase.specs.Forms.{pieces_of}
use Rattle.cn_phrase.specs.InText.{may_be_years}
use Rattle.cn_phrase.specs.Phrases.{Found, after_lead}
use Rattle.cn_phrase.specs.Pieces.{Reading, is_numeral, piece_read, reading_at, without_blank}
use Rattle.cn_phrase.specs.Values.{value_by}
use Rattle.cn_phrase.specs.Words.{after_word}
use Rattle.cn_replace.specs.Pieces.{begins, leading}
use Rattle.cn_codes.specs.Words.{begins_any, ends_any}
use Rattle.cn_speech.specs.declared.phrases.Manner.{Manner}
use Rattle.cn_speech.specs.declared.voice.Voice.{Voice}
use Rattle.cn_speech.specs.Numbers.{one_by_one, whole_said}
use Rattle.cn_speech.specs.Voice.{two, word as said}

-- a number of hours, or of things: 两 for 2
abbrev pub counted : Voice → ℕ → List ℕ
counted voice n = if n == 2 then two voice else whole_said voice n

abbrev pub after_zero : Voice → ℕ → List ℕ
after_zero voice n = said voice (codes "零") ++ whole_said voice n

-- 零 before a number below 10
abbrev pub two_digits : Voice → ℕ → List ℕ
two_digits voice n =
    if nat_lt 0 n && nat_lt n 10 then after_zero voice n else whole_said voice n

-- a number of minutes or seconds in these figures: 05 is 零五
abbrev pub minutes : Voice → List ℕ → ℕ → List ℕ
minutes voice figures n =
    if length figures == 2 then two_digits voice n else whole_said voice n

-- ---- Slots

-- a year of an era is before the text, or of an old calendar: its year is a number
abbrev pub is_of_era : List ℕ → Bool
is_of_era front = ends_old_calendar front || begins_with_two (codes "國") (codes "民") front

-- a year: digit by digit if it has four figures, or two and is not of an era
abbrev pub year : Manner → List ℕ → ℕ → List ℕ
year manner figures n =
    if length figures == 4 || (length figures == 2 && not manner.of_era)
    then one_by_one manner.voice figures else whole_said manner.voice n

-- the numbers of a score are not counted
abbrev pub is_score : Form → Bool
is_score form.Score = true
is_score other = false

-- a number of one to three figures
abbrev pub small : Manner → ℕ → List ℕ
small manner n = if is_score manner.form then whole_said manner.voice n else counted manner.voice n

-- a number before this text: an hour before 点, minutes before 分, seconds before 秒, or another
abbrev pub number_before : Voice → List ℕ → ℕ → List ℕ → List ℕ
number_before voice figures n rest =
    if begins_with (codes "点點") rest then counted voice n
    else (if begins_with (codes "分秒") rest then minutes voice figures n
    else whole_said voice n)

-- the figures of a slot, and their number, as they are spoken before this text
abbrev pub figures_said : Manner → Shape → List ℕ → ℕ → List ℕ → List ℕ
figures_said manner shape.Year figures n rest = year manner figures n
figures_said manner shape.FullYear figures n rest = year manner figures n
figures_said manner shape.EraYear figures n rest = year manner figures n
figures_said manner shape.OneDigit figures n rest = one_by_one manner.voice figures
figures_said manner shape.TwoDigits figures n rest = one_by_one manner.voice figures
figures_said manner shape.Small figures n rest = small manner n
figures_said manner shape.LongCount figures n rest = minutes manner.voice figures n
figures_said manner shape figures n rest =
    number_before manner.voice figures n (without_blank true rest)

-- the number of a slot; Chinese characters stay
abbrev pub slot_said : Manner → Shape → List ℕ → ℕ → List ℕ → List ℕ
slot_said manner shape number n rest =
    if begins is_figure number then figures_said manner shape number n rest else number

-- ---- Pieces

-- a word with which a text begins, as it is written
abbrev pub word_written : Word → List ℕ → List ℕ
word_written word text =
    option_map_or (λ rest. characters_before text rest) (after_word word text) []

-- a word with which a text begins: a link that is a sign is 到, a colon is 比, others stay
abbrev pub word_said : Voice → Word → List ℕ → List ℕ
word_said voice word.Link text =
    if begins_with (codes "到至") text then word_written word.Link text else said voice (codes "到")
word_said voice word.Colon text = said voice (codes "比")
word_said voice other text = word_written other text

-- a piece of a form with which a text begins, given what is read after it
abbrev pub piece_said : Manner → Piece → List ℕ → Reading → List ℕ
piece_said manner (Slot shape) text next =
    slot_said manner shape (leading is_numeral text) next.numbers.last next.rest
piece_said manner (Fixed word) text next = word_said manner.voice word text
piece_said manner (NotBefore guard) text next = []
piece_said manner End text next = []

-- some pieces; a blank beside a figure is left out
abbrev pub pieces_said : Manner → List Piece → Reading → List ℕ
pieces_said manner [] reading = []
pieces_said manner (piece ∷ pieces) reading = elim (piece_read piece reading) [
  | None ↦ []
  | Some next ↦ piece_said manner piece (without_blank reading.after_figure reading.rest) next
      ++ pieces_said manner pieces next
]

-- ---- Dates and times in figures

-- Y-M-D and Y/M/D as Y年M月D日
abbrev pub date_said : Voice → List ℕ → Numbers → List ℕ
date_said voice figures n =
    one_by_one voice figures
    ++ (said voice (codes "年") ++ (whole_said voice n.second
    ++ (said voice (codes "月") ++ (whole_said voice n.last ++ said voice (codes "日")))))

abbrev pub some_seconds : Voice → ℕ → List ℕ
some_seconds voice second = two_digits voice second ++ said voice (codes "秒")

-- seconds; none if they are 0
abbrev pub seconds_said : Voice → ℕ → List ℕ
seconds_said voice second = if second == 0 then [] else some_seconds voice second

abbrev pub some_minutes : Voice → ℕ → ℕ → List ℕ
some_minutes voice minute second =
    two_digits voice minute ++ (said voice (codes "分") ++ seconds_said voice second)

-- minutes and seconds; none if both are 0
abbrev pub minutes_said : Voice → ℕ → ℕ → List ℕ
minutes_said voice minute second =
    if minute == 0 && second == 0 then [] else some_minutes voice minute second

-- a time with colons, with this word after the hour: 十五点三十分
abbrev pub time_said : Voice → List ℕ → Numbers → List ℕ
time_said voice hours time =
    counted voice time.first ++ (said voice hours ++ minutes_said voice time.second time.last)

-- the hour and the minutes of a time without seconds
abbrev pub without_seconds : Numbers → Numbers
without_seconds n = record { first = n.second; second = n.last; last = 0 }

unfoldable pub before_length : List (List ℕ)
before_length =
    codes "用时" ∷ codes "用時" ∷ codes "成绩" ∷ codes "成績" ∷ codes "时长" ∷ codes "時長"
    ∷ codes "历时" ∷ codes "歷時" ∷ codes "倒计时" ∷ codes "倒計時" ∷ []

unfoldable pub after_length : List (List ℕ)
after_length = codes "的成绩" ∷ codes "的成績" ∷ []

-- the text before 为 or 是
abbrev pub before_is : List ℕ → List ℕ
before_is front =
    if begins_with (codes "为為是") front then drop 1 front else front

-- a time with colons between these texts says how long something takes
abbrev pub is_length : List ℕ → List ℕ → Bool
is_length front rest = begins_any after_length rest || ends_any before_length (before_is front)

abbrev pub hours_word : List ℕ → List ℕ → List ℕ
hours_word front rest = if is_length front rest then codes "小时" else codes "点"

-- ---- Phrases

-- a phrase without its word of half a day, with which a text begins
abbrev pub form_said : Voice → List ℕ → Found → List ℕ → List ℕ
form_said voice front found text = elim found.form [
  | form.DashDate ↦ date_said voice (leading is_numeral text) found.numbers
  | form.SlashDate ↦ date_said voice (leading is_numeral text) found.numbers
  | form.ColonMinute ↦ time_said voice (codes "点") (without_seconds found.numbers)
  | form.ColonSecond ↦ time_said voice (hours_word front found.rest) found.numbers
  | other ↦ pieces_said
      (record { voice = voice; form = found.form; of_era = is_of_era front })
      (pieces_of found.form) (reading_at text)
]

-- a phrase with which a text begins, after these characters
abbrev pub phrase_said : Voice → List ℕ → Found → List ℕ → List ℕ
phrase_said voice front found text =
    option_map_or (λ start. characters_before text start ++ form_said voice front found start)
    (after_lead found.lead text) []

-- a year in figures that ends with 00, after 近, 达 and so on: it is a number of years
abbrev pub is_count_of_years : Form → ℕ → List ℕ → List ℕ → Bool
is_count_of_years form.Year year front text =
    year % 100 == 0 && (begins is_figure text && begins_with (codes "达達今有近約约過过經经") front)
is_count_of_years other year front text = false

abbrev pub is_hour_and_minute : Form → Bool
is_hour_and_minute form.ColonMinute = true
is_hour_and_minute other = false

-- N:N may be minutes and seconds, or hours and minutes
abbrev pub is_short_length : List ℕ → Found → Bool
is_short_length front found = is_hour_and_minute found.form && is_length front found.rest

-- it is spoken, after these characters, if it has a value, and is neither a year that may be a number
-- of years nor such a length of time
abbrev pub is_phrase_said : List ℕ → Found → List ℕ → Bool
is_phrase_said front found text =
    not (may_be_years found.form found.numbers.last text found.rest)
    && (not (is_count_of_years found.form found.numbers.last front text)
    && (not (is_short_length front found) && is_some (value_by found.form found.numbers)))
