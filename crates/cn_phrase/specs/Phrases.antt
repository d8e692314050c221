-- The phrase that begins at a place of a text.
use Rattle.std.specs.Prelude.{ℕ, nat_lt, ◌==◌, Bool, true, false, not, ◌&&◌, ◌||◌, List, [], ◌∷◌, length, codes, chars, encode_utf8_all, Option, Some, None, is_some, if◌then◌else◌}
use Rattle.std.specs.Char.{char_set_contains, is_ascii_alphabetic}
use Rattle.std.specs.Option.{option_and_then, option_map, option_map_or}
use Rattle.cn_find.specs.Words.{begins_with_two, ends_week}
use Rattle.cn_replace.specs.Pieces.{begins}
use Rattle.cn_phrase.specs.declared.form.Form.{Form}
use Rattle.cn_phrase.specs.declared.form.Form.TheVariants as form
use Rattle.cn_phrase.specs.declared.phrase.Lead.{Lead}
use Rattle.cn_phrase.specs.declared.phrase.Lead.TheVariants.{Bare, HalfDay, Weekday}
use Rattle.cn_phrase.specs.declared.phrase.Match.{Match}
use Rattle.cn_phrase.specs.declared.piece.Numbers.{Numbers}
use Rattle.cn_phrase.specs.declared.piece.Piece.TheVariants.{Slot, Fixed}
use Rattle.cn_phrase.specs.declared.shape.Shape.TheVariants.{Clock}
use Rattle.cn_phrase.specs.declared.word.Word.TheVariants as word
use Rattle.cn_phrase.specs.Forms.{pieces_of}
use Rattle.cn_phrase.specs.Pieces.{is_numeral, pieces_read, reading_at}
use Rattle.cn_phrase.specs.Ranges.{is_link}
use Rattle.cn_phrase.specs.Words.{after_word}

-- a form in a text: what is before its first piece, the form, its numbers and the text after it
pub record Found : Type 0 where
  pub lead : Lead
  pub form : Form
  pub numbers : Numbers
  pub rest : List ℕ

-- what a `Match` in the code is
abbrev pub found_of : Match → Found
found_of m =
    record { lead = m.lead; form = m.form; numbers = m.numbers; rest = chars m.rest.now }

unfoldable pub is_blank : ℕ → Bool
is_blank c = char_set_contains (codes " ") c

-- the text after what is before the first piece
abbrev pub after_lead : Lead → List ℕ → Option (List ℕ)
after_lead Bare text = if begins is_blank text then None else Some text
after_lead HalfDay text = after_word word.HalfDay text
after_lead Weekday text = after_word word.Weekday text

-- a form that is read from a text
abbrev pub form_read : Lead → Form → List ℕ → Option Found
form_read lead form text = option_and_then (λ start. option_map (λ reading. record {
  lead = lead;
  form = form;
  numbers = reading.numbers;
  rest = reading.rest;
}) (pieces_read (pieces_of form) (reading_at start))) (after_lead lead text)

-- the characters directly after which a form is no phrase
unfoldable pub refused_before : Form → List ℕ
refused_before form.Year = codes "第周週每"
refused_before form.PartOfMonth = codes "某前上下每同意这這那"
refused_before form.DashDate = codes "-/."
refused_before form.SlashDate = codes "-/."
refused_before form.ColonSecond = codes ":：/.-"
refused_before form.ColonMinute = codes ":：/.-"
refused_before form.ColonScore = codes ":：-/.[(\"%,，"
refused_before other = []

-- the text before something ends with a link, after one of some characters. Of the characters
-- before, the nearest is the first
abbrev pub follows_link : List ℕ → List ℕ → Bool
follows_link these [] = false
follows_link these (link ∷ front) =
    is_link link && begins (λ c. char_set_contains these c) front

-- the text begins with an hour
abbrev pub begins_hour : Lead → List ℕ → Bool
begins_hour lead text = is_some (option_and_then (λ start.
    pieces_read (Slot Clock ∷ Fixed word.Shi ∷ []) (reading_at start)) (after_lead lead text))

-- the text goes on with a link and an hour
abbrev pub goes_on_with_hour : List ℕ → Bool
goes_on_with_hour rest = option_map_or
    (λ after. begins_hour Bare after || (begins_hour HalfDay after || begins_hour Weekday after))
    (after_word word.Link rest) false

-- a day such as 明天 is directly before the text
abbrev pub follows_day : List ℕ → Bool
follows_day [] = false
follows_day (c ∷ front) =
    char_set_contains (codes "天") c
    && begins (λ d. char_set_contains (codes "今明昨后後前当當每") d) front

-- 钟 is after an hour, but not 钟情
abbrev pub begins_clock : List ℕ → Bool
begins_clock rest =
    begins (λ c. char_set_contains (codes "钟鐘") c) rest
    && not (begins_with_two (codes "钟鐘") (codes "情") rest)

-- what is around an hour makes it a time: 左右, 起飞, 开会, 开门, 集合 or 前 is after it, but no word such as
-- 前提, and no word that counts points, such as 这, is before it
abbrev pub is_by_event : List ℕ → List ℕ → Bool
is_by_event front rest =
    (begins_with_two (codes "左") (codes "右") rest
    || (begins_with_two (codes "起开開集") (codes "飞飛会會门門合") rest
    || (begins (λ c. char_set_contains (codes "前") c) rest
    && not (begins_with_two (codes "前") (codes "提瞻景置期功沿途程面方言卫者夕身线線列锋鋒端台辈輩例兆奏嘱任") rest))))
    && not (begins (λ c. char_set_contains (codes "这這那哪第几幾差有每最以上") c) front)

-- an hour by itself is a time: it is after a day, or linked to another time, or what is after it makes it
-- one. After 今天 and before 前 the hour is not 1: 一点 is a little in 今天一点都不冷
abbrev pub is_linked_hour : ℕ → List ℕ → List ℕ → Bool
is_linked_hour hour front rest =
    begins_clock rest
    || (begins (λ c. char_set_contains (codes "日号號") c) front
    || (((follows_day front || is_by_event front rest) && not (hour == 1))
    || (follows_link (codes "点點时時半分刻") front || goes_on_with_hour rest)))

-- a form by itself is a phrase: most are; a month or a day only after a date and a link, an hour only
-- if it is linked. An hour with 零 and a digit is not: it may be a decimal
abbrev pub may_be_alone : Form → ℕ → List ℕ → List ℕ → Bool
may_be_alone form.LinkedMonth last front rest = follows_link (codes "月日号號") front
may_be_alone form.LinkedDay last front rest = follows_link (codes "月日号號") front
may_be_alone form.HourAlone last front rest = is_linked_hour last front rest
may_be_alone form.HourZero last front rest = false
may_be_alone other last front rest = true

abbrev pub is_name : ℕ → Bool
is_name c = is_ascii_alphabetic c || char_set_contains (codes "_") c

-- the character ends a number
abbrev pub is_number_end : ℕ → Bool
is_number_end c = is_numeral c || char_set_contains (codes "千仟万萬亿億") c

-- a weekday is directly before the text
abbrev pub follows_weekday : List ℕ → Bool
follows_weekday [] = false
follows_weekday (c ∷ front) =
    char_set_contains (codes "一二三四五六") c
    && ends_week front

-- a phrase without a word before it may begin after these characters: the nearest is no letter and ends no
-- number, so that 两点半 is none in 3两点半, unless it ends a weekday; and it is not 周, after which the
-- phrase would begin with the weekday
abbrev pub is_free : List ℕ → Bool
is_free front =
    not (begins is_name front)
    && ((not (begins is_number_end front) || follows_weekday front) && not (ends_week front))

-- a form that was read is a phrase, given the characters before it
abbrev pub is_bare_phrase : List ℕ → Found → Bool
is_bare_phrase front found =
    is_free front
    && (not (begins (λ c. char_set_contains (refused_before found.form) c) front)
    && may_be_alone found.form found.numbers.last front found.rest)

abbrev pub is_phrase_by : Lead → List ℕ → Found → Bool
is_phrase_by Bare front found = is_bare_phrase front found
is_phrase_by HalfDay front found = true
is_phrase_by Weekday front found = true

abbrev pub is_phrase : List ℕ → Found → Bool
is_phrase front found = is_phrase_by found.lead front found

-- the forms of times of day, before which a word of half a day or a weekday can be
abbrev pub clock_forms : List Form
clock_forms =
    form.HourMinuteSecond ∷ form.HourMinute ∷ form.HourBare ∷ form.HourZero ∷ form.HourHalf ∷ form.HourQuarter ∷
    form.ColonSecond ∷ form.ColonMinute ∷ form.HourAlone ∷ []

-- all forms, in the order of the table
abbrev pub all_forms : List Form
all_forms =
    form.YearMonthDay ∷ form.YearMonth ∷ form.MonthDay ∷ form.Year ∷ form.PartOfMonth ∷ form.DashDate ∷
    form.SlashDate ∷ form.Years ∷ form.Months ∷ form.MonthsTwice ∷ form.Days ∷ form.DaysTwice ∷
    form.LinkedMonth ∷ form.LinkedDay ∷ form.HourMinuteSecond ∷ form.HourMinute ∷ form.HourBare ∷ form.HourZero ∷
    form.HourHalf ∷ form.HourQuarter ∷ form.ColonSecond ∷ form.ColonMinute ∷ form.HourAlone ∷
    form.HoursMinutesSeconds ∷ form.HoursMinutes ∷ form.MinutesSeconds ∷ form.HalfOf ∷
    form.HalfAfter ∷ form.LengthOne ∷ form.LengthTwo ∷ form.Score ∷ form.ColonScore ∷ []

-- a text has fewer bytes than another one
abbrev pub is_shorter : List ℕ → List ℕ → Bool
is_shorter text other =
    nat_lt (length (encode_utf8_all text)) (length (encode_utf8_all other))

-- the form that reaches further, of two in the same text; the first if both reach as far
abbrev pub further : Option Found → Option Found → Option Found
further None other = other
further (Some one) None = Some one
further (Some one) (Some other) =
    if is_shorter other.rest one.rest then Some other else Some one

-- a form that is read from a text, if it is a phrase
abbrev pub phrase_read : List ℕ → List ℕ → Lead → Form → Option Found
phrase_read front text lead form =
    option_and_then (λ found. if is_phrase front found then Some found else None)
    (form_read lead form text)

-- the furthest of some forms
abbrev pub furthest : List ℕ → List ℕ → Lead → List Form → Option Found
furthest front text lead [] = None
furthest front text lead (form ∷ forms) =
    further (phrase_read front text lead form) (furthest front text lead forms)

-- the phrase that begins with a text, if one does; the characters before it are `front`
abbrev pub phrase_at : List ℕ → List ℕ → Option Found
phrase_at front text =
    further (furthest front text Bare all_forms)
    (further (furthest front text HalfDay clock_forms) (furthest front text Weekday clock_forms))
