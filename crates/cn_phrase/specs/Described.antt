-- What an item of a text is, in numbers.
use Rattle.std.specs.Prelude.{ℕ, ◌+◌, ◌/◌, ◌%◌, ◌^◌, Bool, List, ◌++◌, length, chars, Option, Some, None, is_some, unwrap_or, if◌then◌else◌}
use Rattle.cn_find.specs.declared.wanted.Wanted.{Wanted}
use Rattle.cn_find.specs.Spans.{Span, in_front}
use Rattle.cn_quantity.specs.declared.quantity.Quantity.{Quantity}
use Rattle.cn_phrase.specs.declared.described.Described.{Described}
use Rattle.cn_phrase.specs.declared.described.PhraseKind.{PhraseKind}
use Rattle.cn_phrase.specs.declared.described.PhraseKind.TheVariants as kind
use Rattle.cn_phrase.specs.declared.described.PhraseNumbers.{PhraseNumbers}
use Rattle.cn_phrase.specs.declared.described.PhraseState.{PhraseState}
use Rattle.cn_phrase.specs.declared.described.PhraseState.TheVariants.{Certain, Doubtful, Refused}
use Rattle.cn_phrase.specs.declared.form.Form.{Form}
use Rattle.cn_phrase.specs.declared.form.Form.TheVariants as form
use Rattle.cn_phrase.specs.declared.phrase.Lead.{Lead}
use Rattle.cn_phrase.specs.declared.range.QuantityRange.{QuantityRange}
use Rattle.cn_phrase.specs.declared.value.Date.{Date}
use Rattle.cn_phrase.specs.declared.value.Time.{Time}
use Rattle.cn_phrase.specs.declared.value.Value.{Value}
use Rattle.cn_phrase.specs.declared.value.Value.TheVariants as value
use Rattle.cn_phrase.specs.Hours.{hour_of_day}
use Rattle.cn_phrase.specs.InText.{is_doubtful, is_range_doubtful}
use Rattle.cn_phrase.specs.Items.{Item, phrase, money, range, item_at}
use Rattle.cn_phrase.specs.Money.{Money}
use Rattle.cn_phrase.specs.MoneyText.{fen_of, is_money_doubtful, yuan_of}
use Rattle.cn_phrase.specs.Phrases.{Found}
use Rattle.cn_phrase.specs.Ranges.{Ends, range_of}
use Rattle.cn_phrase.specs.Values.{value_by}

abbrev pub numbers : ℕ → ℕ → ℕ → ℕ → PhraseNumbers
numbers a b c d = record { first = a; second = b; third = c; fourth = d }

-- the kind of a form
abbrev pub kind_of : Form → PhraseKind
kind_of form.YearMonthDay = kind.Date
kind_of form.YearMonth = kind.Date
kind_of form.MonthDay = kind.Date
kind_of form.Year = kind.Date
kind_of form.PartOfMonth = kind.Date
kind_of form.DashDate = kind.Date
kind_of form.SlashDate = kind.Date
kind_of form.LinkedMonth = kind.Date
kind_of form.LinkedDay = kind.Date
kind_of form.Years = kind.Years
kind_of form.Months = kind.Months
kind_of form.MonthsTwice = kind.Months
kind_of form.Days = kind.Days
kind_of form.DaysTwice = kind.Days
kind_of form.HourMinuteSecond = kind.Time
kind_of form.HourMinute = kind.Time
kind_of form.HourBare = kind.Time
kind_of form.HourZero = kind.Time
kind_of form.HourHalf = kind.Time
kind_of form.HourQuarter = kind.Time
kind_of form.HourAlone = kind.Time
kind_of form.ColonSecond = kind.Time
kind_of form.ColonMinute = kind.Time
kind_of form.HoursMinutesSeconds = kind.Duration
kind_of form.HoursMinutes = kind.Duration
kind_of form.MinutesSeconds = kind.Duration
kind_of form.HalfOf = kind.Half
kind_of form.HalfAfter = kind.Half
kind_of form.LengthOne = kind.Length
kind_of form.LengthTwo = kind.Length
kind_of form.Score = kind.Score
kind_of form.ColonScore = kind.Score

abbrev pub number_or : ℕ → Option ℕ → ℕ
number_or other number = unwrap_or number other

-- a flag if it applies, and otherwise 0
abbrev pub flag : Bool → ℕ → ℕ
flag applies worth = if applies then worth else 0

-- which parts of a date are given: the sum of 1 for the year, 2 for the month and 4 for the day
abbrev pub given_parts : Date → ℕ
given_parts date =
    flag (is_some date.year) 1 + flag (is_some date.month) 2 + flag (is_some date.day) 4

abbrev pub of_date : Date → PhraseNumbers
of_date date =
    numbers (number_or 0 date.year) (number_or 0 date.month) (number_or 0 date.day) (given_parts date)

-- a time with which a text begins; its hour of 24 is 255 if it is not known
abbrev pub of_time : Lead → List ℕ → Time → PhraseNumbers
of_time lead text time =
    numbers time.hour time.minute time.second (number_or 255 (hour_of_day lead text time))

-- a value with which a text begins
abbrev pub of_value : Lead → List ℕ → Value → PhraseNumbers
of_value lead text (value.Date date) = of_date date
of_value lead text (value.Years first last) = numbers first last 0 0
of_value lead text (value.Months first last) = numbers first last 0 0
of_value lead text (value.Days first last) = numbers first last 0 0
of_value lead text (value.Time time) = of_time lead text time
of_value lead text (value.Duration hours minutes seconds) = numbers hours minutes seconds 0
of_value lead text (value.Half number) = numbers number 0 0 0
of_value lead text (value.Length whole decimals places) = numbers whole decimals places 0
of_value lead text (value.Score first second) = numbers first second 0 0

abbrev pub state_of : Bool → PhraseState
state_of is_doubtful = if is_doubtful then Doubtful else Certain

abbrev pub described_as : PhraseKind → Lead → List ℕ → Bool → Option Value → Described
described_as kind lead text doubtful None =
    record { kind = kind; state = Refused; numbers = numbers 0 0 0 0; split = 0 }
described_as kind lead text doubtful (Some v) =
    record { kind = kind; state = state_of doubtful; numbers = of_value lead text v; split = 0 }

-- a phrase with which a text begins
abbrev pub described_phrase : List ℕ → Found → List ℕ → Described
described_phrase front found text = described_as (kind_of found.form) found.lead text
    (is_doubtful front found text) (value_by found.form found.numbers)

abbrev pub range_state : Ends → Option QuantityRange → PhraseState
range_state ends None = Refused
range_state ends (Some r) = state_of (is_range_doubtful ends)

abbrev pub described_range : Ends → Described
described_range ends = record {
  kind = kind.Range;
  state = range_state ends (range_of ends.low.text ends.high.text);
  numbers = numbers 0 0 0 0;
  split = length ends.low.text;
}

-- a number of fen below 2^64 by its lower and its upper 32 bits, and 1; all 0 if it is not known
abbrev pub of_fen : Option ℕ → PhraseNumbers
of_fen None = numbers 0 0 0 0
of_fen (Some fen) = numbers (fen % 2 ^ 32) (fen / 2 ^ 32) 1 0

abbrev pub described_money : List ℕ → Money → Described
described_money front m = record {
  kind = kind.Money;
  state = state_of (is_money_doubtful front m);
  numbers = of_fen (fen_of m);
  split = 0;
}

-- an item with which a text begins; the characters before it are `front`
abbrev pub described_item : List ℕ → List ℕ → Option Item → Described
described_item front text (Some (phrase found)) = described_phrase front found text
described_item front text (Some (money m)) = described_money front m
described_item front text (Some (range ends)) = described_range ends
described_item front text other =
    record { kind = kind.Expression; state = Certain; numbers = numbers 0 0 0 0; split = 0 }

-- the value in yuan of an item that is a sum of money
abbrev pub yuan_of_item : Option Item → Option Quantity
yuan_of_item (Some (money m)) = yuan_of m
yuan_of_item other = None

unfoldable pub yuan_of_phrase : Wanted → Span → Option Quantity
yuan_of_phrase wanted span =
    yuan_of_item (item_at wanted (in_front span.before) (chars (span.text ++ span.after)))

-- an item of a text
unfoldable pub described : Wanted → Span → Described
described wanted span =
    let text = chars (span.text ++ span.after) in
    described_item (in_front span.before) text (item_at wanted (in_front span.before) text)
