-- The rows of a column of texts, which `Columns` says are what the calls for one value answer.
use Rattle.std.specs.Prelude.{ℕ, ◌&&◌, ℤ, pos, int_lt, nat_abs, nat_le, nat_lt, Bool, List, [], encode_utf8_all, Option, Some, None, Result, Ok, Err, if◌then◌else◌}
use Rattle.chinese_number.specs.declared.AmountForm.{AmountForm}
use Rattle.chinese_number.specs.declared.ChineseCase.{ChineseCase}
use Rattle.chinese_number.specs.declared.ChineseVariant.{ChineseVariant}
use Rattle.chinese_number.specs.AmountPlaces.{amount_limit}
use Rattle.chinese_number.specs.Refusal.{Refusal}
use Rattle.chinese_number.specs.Whole.{Kind, holds}
use Rattle.cn_amount.specs.Invoice.{invoice_amount_text}
use Rattle.cn_columns.specs.Columns.{Row}
use Rattle.cn_date.specs.declared.date.BillDate.{BillDate}
use Rattle.cn_date.specs.Calendar.{days_of}
use Rattle.cn_date.specs.Writes.{date_text}
use Rattle.cn_dynamic.specs.Ways.{written_by}
use Rattle.cn_c.specs.declared.codes.NamedWay.{NamedWay}
use Rattle.cn_c.specs.declared.printing.Style.{Style}
use Rattle.cn_c.specs.Codes.{refusal_status, CN_DONE, CN_NOT_HELD, CN_NOT_A_DATE, CN_TOO_LARGE, CN_TOO_SMALL}
use Rattle.cn_c.specs.Prints.{way_written}

-- a row that is refused with this status
abbrev pub refused : ℕ → Row
refused status = record { status = status; text = [] }

-- a row with these characters
abbrev pub written : List ℕ → Row
written characters = record { status = CN_DONE; text = encode_utf8_all characters }

-- the row of a number that is written, or refused
abbrev pub row_written : Result (List ℕ) Refusal → Row
row_written (Ok characters) = written characters
row_written (Err refusal) = refused (refusal_status refusal)

-- the row of a number, which its type may not hold
abbrev pub number_row : Kind → NamedWay → ChineseVariant → ChineseCase → ℤ → Row
number_row kind way script case number =
    if holds kind number
    then row_written (written_by (way_written way script (nat_abs number)) script case number)
    else refused CN_NOT_HELD

-- how numbers are written, if each choice is named
abbrev pub style_of : Option NamedWay → Option ChineseVariant → Option ChineseCase → Option Style
style_of (Some way) (Some script) (Some case) =
    Some (record { way = way; script = script; case = case })
style_of way script case = None

-- the row of an amount
abbrev pub amount_row : ChineseVariant → AmountForm → ℤ → Row
amount_row script form fen =
    if nat_lt (nat_abs fen) amount_limit then written (invoice_amount_text script form fen)
    else refused (if int_lt fen (pos 0) then CN_TOO_SMALL else CN_TOO_LARGE)

-- whether a date exists
abbrev pub is_date : BillDate → Bool
is_date date =
    nat_lt 0 date.year && nat_lt date.year 10000 && (nat_lt 0 date.month && nat_le date.month 12)
    && (nat_lt 0 date.day && nat_le date.day (days_of date.year date.month))

-- the row of a date
abbrev pub date_row : ChineseVariant → BillDate → Row
date_row script date =
    if is_date date then written (date_text script date) else refused CN_NOT_A_DATE
