-- Converts the result of a reader to the terms of the definitions of numerals.
use Rattle.std.specs.Prelude.{Result, Ok, Err}
use Rattle.cn_core.specs.Refusal.{Refusal, empty, incorrect_at, too_large, too_small}
use Rattle.cn_judge.specs.declared.error.ChineseToNumberError.{ChineseToNumberError}
use Rattle.cn_judge.specs.declared.error.ChineseToNumberError.TheVariants.{ChineseNumberEmpty, ChineseNumberIncorrect, Overflow, Underflow}

-- the refusal that an error stands for
abbrev pub refusal_of : ChineseToNumberError → Refusal
refusal_of ChineseNumberEmpty = empty
refusal_of (ChineseNumberIncorrect char_index) = incorrect_at char_index
refusal_of Overflow = too_large
refusal_of Underflow = too_small

-- the answer that a result stands for; the first argument gives the number of a value
abbrev pub answer_of : {T N : Type 0} → (T → N) → Result T ChineseToNumberError → Result N Refusal
answer_of number (Ok value) = Ok (number value)
answer_of number (Err error) = Err (refusal_of error)
