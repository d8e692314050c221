-- The values of phrases.
use Rattle.std.specs.Prelude.{ℕ, ◌*◌, ◌==◌, nat_le, nat_lt, ◌&&◌, ◌||◌, Option, Some, None, if◌then◌else◌}
use Rattle.std.specs.Option.{option_and_then, option_map}
use Rattle.cn_date.specs.Calendar.{days_of}
use Rattle.cn_phrase.specs.declared.form.Form.{Form}
use Rattle.cn_phrase.specs.declared.form.Form.TheVariants as form
use Rattle.cn_phrase.specs.declared.piece.Numbers.{Numbers}
use Rattle.cn_phrase.specs.declared.value.Value.{Value}
use Rattle.cn_phrase.specs.declared.value.Value.TheVariants.{Date, Years, Months, Days, Time, Duration, Half, Length, Score}

-- a number from `least` to `most`
abbrev pub within : ℕ → ℕ → ℕ → Option ℕ
within least most number =
    if nat_le least number && nat_le number most then Some number else None

-- the year by which the days of a month are counted: one with 29 days in February, if no year of
-- four digits is said
abbrev pub counted_year : ℕ → ℕ
counted_year year = if nat_lt year 100 then 2000 else year

abbrev pub month_of : ℕ → Option ℕ
month_of number = within 1 12 number

-- the day of a month that has it
abbrev pub day_in : ℕ → ℕ → ℕ → Option ℕ
day_in year month number = within 1 (days_of (counted_year year) month) number

-- a month and a day, with a year or without
abbrev pub date_of : Option ℕ → ℕ → ℕ → ℕ → Option Value
date_of said year month day = option_and_then (λ m. option_map (λ d.
    Date (record { year = said; month = Some m; day = Some d })) (day_in year m day)) (month_of month)

-- a time of day, from 0:00:00 to 24:00:00
abbrev pub time_of : ℕ → ℕ → ℕ → Option Value
time_of hour minute second =
    if (nat_lt hour 24 && (nat_lt minute 60 && nat_lt second 60))
    || (hour == 24 && (minute == 0 && second == 0))
    then Some (Time (record { hour = hour; minute = minute; second = second })) else None

-- two numbers of which the second is greater
abbrev pub rising : (ℕ → ℕ → Value) → Option ℕ → Option ℕ → Option Value
rising value one other = option_and_then (λ a. option_and_then (λ b.
    if nat_lt a b then Some (value a b) else None) other) one

-- a duration, with less than 60 minutes after hours, and less than 60 seconds
abbrev pub duration_of : ℕ → ℕ → ℕ → Option Value
duration_of hours minutes seconds =
    if nat_lt seconds 60 && (nat_lt minutes 60 || hours == 0)
    then Some (Duration hours minutes seconds) else None

-- a date of which not all is said
abbrev pub part_of_date : Option ℕ → Option ℕ → Option ℕ → Value
part_of_date year month day = Date (record { year = year; month = month; day = day })

-- a number with decimals
abbrev pub length_of : ℕ → ℕ → ℕ → Option Value
length_of whole decimals places = option_map (λ d. Length whole d places) (within 0 99 decimals)

-- the value of a form, by its numbers; none if it is refused
abbrev pub value_by : Form → Numbers → Option Value
value_by form.YearMonthDay n = date_of (Some n.first) n.first n.second n.last
value_by form.DashDate n = date_of (Some n.first) n.first n.second n.last
value_by form.SlashDate n = date_of (Some n.first) n.first n.second n.last
value_by form.MonthDay n = date_of None 0 n.second n.last
value_by form.YearMonth n =
    option_map (λ m. part_of_date (Some n.second) (Some m) None) (month_of n.last)
value_by form.Year n = Some (part_of_date (Some n.last) None None)
value_by form.LinkedMonth n =
    option_map (λ m. part_of_date None (Some m) None) (month_of n.last)
value_by form.PartOfMonth n =
    option_map (λ m. part_of_date None (Some m) None) (month_of n.last)
value_by form.LinkedDay n =
    option_map (λ d. part_of_date None None (Some d)) (within 1 31 n.last)
value_by form.Years n = rising Years (Some n.second) (Some n.last)
value_by form.Months n = rising Months (month_of n.second) (month_of n.last)
value_by form.MonthsTwice n = rising Months (month_of n.second) (month_of n.last)
value_by form.Days n = rising Days (within 1 31 n.second) (within 1 31 n.last)
value_by form.DaysTwice n = rising Days (within 1 31 n.second) (within 1 31 n.last)
value_by form.HourMinuteSecond n = time_of n.first n.second n.last
value_by form.ColonSecond n = time_of n.first n.second n.last
value_by form.HourMinute n = time_of n.second n.last 0
value_by form.HourBare n = time_of n.second n.last 0
value_by form.HourZero n = time_of n.second n.last 0
value_by form.ColonMinute n = time_of n.second n.last 0
value_by form.HourHalf n = time_of n.last 30 0
value_by form.HourQuarter n =
    option_and_then (λ quarters. time_of n.second (15 * quarters) 0) (within 1 3 n.last)
value_by form.HourAlone n = time_of n.last 0 0
value_by form.HoursMinutesSeconds n = duration_of n.first n.second n.last
value_by form.HoursMinutes n = duration_of n.second n.last 0
value_by form.MinutesSeconds n = duration_of 0 n.second n.last
value_by form.HalfOf n = Some (Half n.last)
value_by form.HalfAfter n = Some (Half n.last)
value_by form.LengthOne n = length_of n.second n.last 1
value_by form.LengthTwo n = length_of n.second n.last 2
value_by form.Score n = Some (Score n.second n.last)
value_by form.ColonScore n = Some (Score n.second n.last)
