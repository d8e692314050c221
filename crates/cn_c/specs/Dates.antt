-- What the calls for dates write and return.
use Rattle.std.specs.Prelude.{◌≡◌, ℕ, ◌⊎◌, List, encode_utf8_all, Option, Some, Result, Ok, Err, slice_get}
use Rattle.std.specs.Bool.{MatchBool}
use Rattle.std.specs.Str.{is_utf8}
use Rattle.chinese_number.specs.declared.ChineseVariant.{ChineseVariant}
use Rattle.cn_date.specs.declared.date.BillDate.{BillDate}
use Rattle.cn_date.specs.Calendar.{IsDate}
use Rattle.cn_date.specs.Reading.{DateRefusal, unfinished, incorrect_at, ReadsDate}
use Rattle.cn_date.specs.Writes.{date_text}
use Rattle.cn_c.specs.declared.date.Date.{Date}
use Rattle.cn_judge.specs.ByteIndex.{byte_index}
use Rattle.cn_c.specs.Codes.{scripts, CN_DONE, CN_INCORRECT, CN_NOT_UTF8, CN_UNKNOWN, CN_UNFINISHED, CN_NOT_A_DATE}
use Rattle.cn_c.specs.Prints.{PutsNothing, PutsIfItFits}

-- the date of three numbers, which need not exist
abbrev pub date : ℕ → ℕ → ℕ → BillDate
date year month day = record { year = year; month = month; day = day }

-- the result of printing a date in a script, or UNKNOWN if none is named: the text of the date if
-- it exists, and NOT_A_DATE otherwise
abbrev pub IsDatePrintedAs : BillDate → Option ChineseVariant → List ℕ → ℕ → List ℕ → ℕ → Type 0
IsDatePrintedAs date (Some script) old status new len =
    (IsDate date × PutsIfItFits (encode_utf8_all (date_text script date)) old status new len)
    ⊎ (¬ IsDate date × PutsNothing CN_NOT_A_DATE old status new len)
IsDatePrintedAs date script old status new len = PutsNothing CN_UNKNOWN old status new len

-- the result of printing a date, given a year, a month, a day and the code of a script
abbrev pub IsDatePrinted : ℕ → ℕ → ℕ → ℕ → List ℕ → ℕ → List ℕ → ℕ → Type 0
IsDatePrinted year month day script old status new len =
    IsDatePrintedAs (date year month day) (slice_get scripts script) old status new len

-- what is written for a date
abbrev pub date_told : BillDate → Date
date_told date = record {
  year = date.year;
  month = date.month;
  day = date.day;
  char_index = 0;
  byte_index = 0;
}

-- what is written if there is no date: zeros, and the position of a fault
abbrev pub no_date : ℕ → ℕ → Date
no_date char_index byte_index =
    record { year = 0; month = 0; day = 0; char_index = char_index; byte_index = byte_index }

-- the answer to a text is shown by the status and by what is written
abbrev pub TellsDate : List ℕ → Result BillDate DateRefusal → ℕ → Date → Type 0
TellsDate text (Ok date) status told = (status ≡ CN_DONE) × (told ≡ date_told date)
TellsDate text (Err unfinished) status told = (status ≡ CN_UNFINISHED) × (told ≡ no_date 0 0)
TellsDate text (Err (incorrect_at char_index)) status told =
    (status ≡ CN_INCORRECT) × (told ≡ no_date char_index (byte_index text char_index))

-- the result of reading bytes as a date
abbrev pub IsDateRead : List ℕ → ℕ → Date → Type 0
IsDateRead bytes status told =
    MatchBool (is_utf8 bytes)
    ((answer : Result BillDate DateRefusal) × ReadsDate bytes answer
    × TellsDate bytes answer status told)
    ((status ≡ CN_NOT_UTF8) × (told ≡ no_date 0 0))
