-- Reading from left to right: the state after each character.
use Rattle.std.specs.Prelude.{ℕ, zero, suc, ◌+◌, ◌*◌, ◌<◌, ◌==◌, nat_lt, nat_le, Bool, true, not, ◌&&◌, List, Option, Some, None, if◌then◌else◌}
use Rattle.cn_date.specs.declared.capital.Capital.{Capital}
use Rattle.cn_date.specs.declared.capital.Capital.TheVariants.{Digit, Shi, Nian, Yue, Ri}
use Rattle.cn_date.specs.declared.part.Part.{Part}
use Rattle.cn_date.specs.declared.part.Part.TheVariants.{Nothing, Ling, LingOne, LingTens, One, Tens, Both}
use Rattle.cn_date.specs.declared.state.State.{State}
use Rattle.cn_date.specs.declared.state.State.TheVariants.{Year, Month, Day, Complete}
use Rattle.cn_date.specs.declared.date.BillDate.{BillDate}
use Rattle.cn_date.specs.Calendar.{days_of}
use Rattle.cn_date.specs.Reading.{capital_of}
use Rattle.cn_grammar.specs.Machine as machine

-- each digit of the part is from 1 to 9
abbrev pub IsPart : Part → Type 0
IsPart Nothing = Unit {0}
IsPart Ling = Unit {0}
IsPart (LingOne digit) = (0 < digit) × (digit < 10)
IsPart (LingTens digit) = (0 < digit) × (digit < 10)
IsPart (One digit) = (0 < digit) × (digit < 10)
IsPart (Tens digit) = (0 < digit) × (digit < 10)
IsPart (Both tens ones) = (0 < tens) × (tens < 10) × (0 < ones) × (ones < 10)

-- each digit of the part in a state is from 1 to 9
abbrev pub HasPart : State → Type 0
HasPart (Year year) = Unit {0}
HasPart (Month year part) = IsPart part
HasPart (Day year month days part) = IsPart part
HasPart (Complete date) = Unit {0}

-- the part after one more capital; none if no number continues with it
abbrev pub part_step : Part → Capital → Option Part
part_step Nothing (Digit zero) = Some Ling
part_step Nothing (Digit (suc n)) = Some (One (suc n))
part_step Ling (Digit (suc n)) = Some (LingOne (suc n))
part_step (LingOne digit) Shi = Some (LingTens digit)
part_step (One digit) Shi = Some (Tens digit)
part_step (Tens digit) (Digit (suc n)) = Some (Both digit (suc n))
part_step part capital = None

-- a month can begin like this
abbrev pub fits_month : Part → Bool
fits_month Nothing = true
fits_month Ling = true
fits_month (LingOne digit) = true
fits_month (LingTens digit) = digit == 1
fits_month (One digit) = not (digit == 2)
fits_month (Tens digit) = digit == 1
fits_month (Both tens ones) = tens == 1 && nat_le ones 2

-- a day can begin like this in a month of `days` days
abbrev pub fits_day : ℕ → Part → Bool
fits_day days Nothing = true
fits_day days Ling = true
fits_day days (LingOne digit) = true
fits_day days (LingTens digit) = nat_le (10 * digit) days
fits_day days (One digit) = nat_lt (10 * digit) days
fits_day days (Tens digit) = nat_lt (10 * digit) days
fits_day days (Both tens ones) = nat_le (10 * tens + ones) days

-- the day if it is complete
abbrev pub day_of : Part → Option ℕ
day_of (LingOne digit) = Some digit
day_of (LingTens digit) = Some (10 * digit)
day_of (Both tens ones) = Some (10 * tens + ones)
day_of part = None

-- the month if it is complete
abbrev pub month_of : Part → Option ℕ
month_of (One digit) = if digit == 1 then None else Some digit
month_of part = day_of part

-- the state after the figures of a year and one more capital
abbrev pub year_step : ℕ → Capital → Option State
year_step year (Digit digit) =
    if nat_lt year 1000 && not (10 * year + digit == 0) then Some (Year (10 * year + digit))
    else None
year_step year Nian = if year == 0 then None else Some (Month year Nothing)
year_step year capital = None

-- the state of a month that is not complete; none if no month begins like this
abbrev pub month_more : ℕ → Option Part → Option State
month_more year None = None
month_more year (Some part) = if fits_month part then Some (Month year part) else None

-- the state after a month
abbrev pub month_done : ℕ → Option ℕ → Option State
month_done year None = None
month_done year (Some month) = Some (Day year month (days_of year month) Nothing)

-- the state after a part of a month and one more capital
abbrev pub month_step : ℕ → Part → Capital → Option State
month_step year part Yue = month_done year (month_of part)
month_step year part capital = month_more year (part_step part capital)

-- the state of a day that is not complete; none if no day begins like this
abbrev pub day_more : ℕ → ℕ → ℕ → Option Part → Option State
day_more year month days None = None
day_more year month days (Some part) =
    if fits_day days part then Some (Day year month days part) else None

-- the state after a day
abbrev pub day_done : ℕ → ℕ → Option ℕ → Option State
day_done year month None = None
day_done year month (Some day) =
    Some (Complete (record { year = year; month = month; day = day }))

-- the state after a part of a day and one more capital
abbrev pub day_step : ℕ → ℕ → ℕ → Part → Capital → Option State
day_step year month days part Ri = day_done year month (day_of part)
day_step year month days part capital = day_more year month days (part_step part capital)

-- the state after one more capital; none if no date continues with it
abbrev pub step : State → Capital → Option State
step (Year year) capital = year_step year capital
step (Month year part) capital = month_step year part capital
step (Day year month days part) capital = day_step year month days part capital
step (Complete date) capital = None

-- the state after a text
abbrev pub run : State → List Capital → Option State
run state capitals = machine.run step state capitals

-- the date if it is complete
abbrev pub end : State → Option BillDate
end (Complete date) = Some date
end state = None

-- the machine that reads dates, character by character
abbrev pub date_machine : machine.Machine State BillDate
date_machine = record { begin = Year 0; step = λ state c. machine.step_as step state (capital_of c); end = end }
