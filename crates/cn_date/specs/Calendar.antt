-- The dates that exist: those of the Gregorian calendar, from year 1 to year 9999.
use Rattle.std.specs.Prelude.{ℕ, ◌%◌, ◌==◌, ◌<◌, ◌≤◌, Bool, not, ◌&&◌, ◌||◌, if◌then◌else◌}
use Rattle.cn_date.specs.declared.date.BillDate.{BillDate}

-- February has 29 days in this year
abbrev pub is_leap : ℕ → Bool
is_leap year = year % 4 == 0 && (not (year % 100 == 0) || year % 400 == 0)

-- the number of days of a month
abbrev pub days_of : ℕ → ℕ → ℕ
days_of year month =
    if month == 2 then (if is_leap year then 29 else 28)
    else (if month == 4 || (month == 6 || (month == 9 || month == 11)) then 30 else 31)

-- the date exists
abbrev pub IsDate : BillDate → Type 0
IsDate date =
    (0 < date.year) × (date.year < 10000) × (0 < date.month) × (date.month ≤ 12)
    × (0 < date.day) × (date.day ≤ days_of date.year date.month)
