-- For each law with premises, values that meet all of them.
use Rattle.std.proofs.Common.{arith}
use Rattle.chinese_number.specs.DateCalendar.{IsDate}

-- the leap day
shown_dates_are_read : IsDate (record { year = 2024; month = 2; day = 29 })
shown_dates_are_read =
    (omega arith, omega arith, omega arith, omega arith, omega arith, omega arith)
