-- What the answer of a call says about a text.
use Rattle.std.specs.Prelude.{Result, Ok, Err}
use Rattle.cn_date.specs.declared.date.BillDate.{BillDate}
use Rattle.cn_date.specs.declared.error.ChineseToDateError.{ChineseToDateError}
use Rattle.cn_date.specs.declared.error.ChineseToDateError.TheVariants.{Unfinished, Incorrect}
use Rattle.cn_date.specs.Reading.{DateRefusal, unfinished, incorrect_at}

-- the refusal that an error is
abbrev pub refusal_of : ChineseToDateError → DateRefusal
refusal_of Unfinished = unfinished
refusal_of (Incorrect char_index) = incorrect_at char_index

-- the answer that the result of a call is
abbrev pub answer_of : Result BillDate ChineseToDateError → Result BillDate DateRefusal
answer_of (Ok date) = Ok date
answer_of (Err error) = Err (refusal_of error)
