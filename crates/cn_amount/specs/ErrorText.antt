-- The text of an error.
use Rattle.std.specs.Prelude.{ℕ, List, ◌++◌, codes, decimal}
use Rattle.cn_amount.specs.declared.error.AmountToChineseError.{AmountToChineseError}
use Rattle.cn_amount.specs.declared.error.AmountToChineseError.TheVariants.{Overflow, OutOfMemory}
use Rattle.cn_amount.specs.declared.error.ChineseToAmountError.{ChineseToAmountError}
use Rattle.cn_amount.specs.declared.error.ChineseToAmountError.TheVariants.{Unfinished, Incorrect}

-- the bytes that `{}` writes for an amount that was not written
abbrev pub writing_error_text : AmountToChineseError → List ℕ
writing_error_text Overflow = codes "number is too large"
writing_error_text OutOfMemory = codes "out of memory"

-- the bytes that it writes for a text that was not read
abbrev pub reading_error_text : ChineseToAmountError → List ℕ
reading_error_text Unfinished = codes "the amount is not finished"
reading_error_text (Incorrect char_index) =
    codes "the amount is incorrect (position: " ++ (decimal char_index ++ codes ")")
