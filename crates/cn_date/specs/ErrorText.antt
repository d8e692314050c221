-- The text of an error.
use Rattle.std.specs.Prelude.{ℕ, List, ◌++◌, codes, decimal}
use Rattle.cn_date.specs.declared.error.DateToChineseError.{DateToChineseError}
use Rattle.cn_date.specs.declared.error.DateToChineseError.TheVariants.{NotADate, OutOfMemory}
use Rattle.cn_date.specs.declared.error.ChineseToDateError.{ChineseToDateError}
use Rattle.cn_date.specs.declared.error.ChineseToDateError.TheVariants.{Unfinished, Incorrect}

-- the bytes that `{}` writes for a date that was not written
abbrev pub writing_error_text : DateToChineseError → List ℕ
writing_error_text NotADate = codes "there is no such date"
writing_error_text OutOfMemory = codes "out of memory"

-- the bytes that it writes for a text that was not read
abbrev pub reading_error_text : ChineseToDateError → List ℕ
reading_error_text Unfinished = codes "the date is not finished"
reading_error_text (Incorrect char_index) =
    codes "the date is incorrect (position: " ++ (decimal char_index ++ codes ")")
