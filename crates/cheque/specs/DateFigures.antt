-- A date in figures, such as 2026-01-15: four digits, two digits and two digits, with hyphens
-- between them. Figures are given by their characters.
use Rattle.std.specs.Prelude.{◌≡◌, ℕ, ◌/◌, ◌%◌, List, ◌++◌, length, Result, codes, chars, decimal}
use Rattle.chinese_number.specs.declared.BillDate.{BillDate}
use Rattle.chinese_number.specs.declared.ChineseToDateError.{ChineseToDateError}
use Rattle.chinese_number.specs.DateAnswer.{answer_of}
use Rattle.cn_grammar.specs.Answers as answers
use Rattle.cn_dynamic.specs.Decimal.{value_of}
use Rattle.cheque.specs.Digits.{AreDigits}

-- `count` digits write this number
abbrev pub WriteNumber : ℕ → List ℕ → ℕ → Type 0
WriteNumber count digits number =
    (length digits ≡ count) × AreDigits digits × (number ≡ value_of digits)

-- these figures write this date, which need not exist
pub record IsDateFigures (figures : List ℕ) (date : BillDate) : Type 0 where
  pub year : List ℕ
  pub month : List ℕ
  pub day : List ℕ
  pub writes_year : WriteNumber 4 year date.year
  pub writes_month : WriteNumber 2 month date.month
  pub writes_day : WriteNumber 2 day date.day
  pub form : figures ≡ year ++ (codes "-" ++ (month ++ (codes "-" ++ day)))

-- `answer` is the answer to figures, given by their bytes
abbrev pub ReadsDateFigures : List ℕ → Result BillDate ChineseToDateError → Type 0
ReadsDateFigures bytes answer =
    answers.Answers IsDateFigures (chars bytes) (answer_of answer)

-- the two digits of a number below 100
abbrev pub two_digits : ℕ → List ℕ
two_digits number = decimal (number / 10 % 10) ++ decimal (number % 10)

-- the figures in which a date is written
abbrev pub figures_of : BillDate → List ℕ
figures_of date =
    two_digits (date.year / 100) ++ (two_digits date.year ++ (codes "-"
    ++ (two_digits date.month ++ (codes "-" ++ two_digits date.day))))
