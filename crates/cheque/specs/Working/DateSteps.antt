-- Reading the figures of a date from left to right: the state after each character.
use Rattle.std.specs.Prelude.{ℕ, ◌+◌, ◌*◌, ◌<◌, ◌==◌, nat_lt, Option, Some, None, option_map, if◌then◌else◌}
use Rattle.chinese_number.specs.declared.BillDate.{BillDate}
use Rattle.cn_grammar.specs.Machine.{Machine}
use Rattle.cheque.specs.declared.dates.Number.{Number}
use Rattle.cheque.specs.declared.dates.State.{State}
use Rattle.cheque.specs.declared.dates.State.TheVariants.{Year, Month, Day}
use Rattle.cheque.specs.Digits.{by_character}

-- a number with fewer than `most` digits is below 1000
abbrev pub IsBelow : ℕ → Number → Type 0
IsBelow most number = number.digits < most → number.value < 1000

-- the number of a state that is not yet complete is below 1000
abbrev pub AreBelow : State → Type 0
AreBelow (Year year) = IsBelow 4 year
AreBelow (Month year month) = IsBelow 2 month
AreBelow (Day year month day) = IsBelow 2 day

-- a number before its first digit
abbrev pub no_number : Number
no_number = record { digits = 0; value = 0 }

-- a number after one more digit; none if it already has `most` digits
abbrev pub with_digit : Number → ℕ → ℕ → Option Number
with_digit number digit most =
    if nat_lt number.digits most
    then Some (record { digits = number.digits + 1; value = 10 * number.value + digit })
    else None

-- the state after one more digit; none if no figures continue with it
abbrev pub after_digit : State → ℕ → Option State
after_digit (Year year) digit = option_map Year (with_digit year digit 4)
after_digit (Month year month) digit = option_map (Month year) (with_digit month digit 2)
after_digit (Day year month day) digit = option_map (Day year month) (with_digit day digit 2)

-- the state after a hyphen; none if no figures continue with it
abbrev pub after_hyphen : State → Option State
after_hyphen (Year year) = if year.digits == 4 then Some (Month year.value no_number) else None
after_hyphen (Month year month) =
    if month.digits == 2 then Some (Day year month.value no_number) else None
after_hyphen (Day year month day) = None

-- the state after one more character; none if no figures continue with it
abbrev pub step : State → ℕ → Option State
step state c = by_character 45 (after_hyphen state) (after_digit state) c

-- the date if all its figures have been read
abbrev pub end : State → Option BillDate
end (Day year month day) =
    if day.digits == 2 then Some (record { year = year; month = month; day = day.value }) else None
end state = None

-- the machine that reads the figures of a date, character by character
abbrev pub date_machine : Machine State BillDate
date_machine = record { begin = Year no_number; step = step; end = end }
