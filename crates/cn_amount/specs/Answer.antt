-- What the answer of a call says about a text.
use Rattle.std.specs.Prelude.{Result, Ok, Err}
use Rattle.cn_amount.specs.declared.error.ChineseToAmountError.{ChineseToAmountError}
use Rattle.cn_amount.specs.declared.error.ChineseToAmountError.TheVariants.{Unfinished, Incorrect}
use Rattle.cn_amount.specs.Reading.{AmountRefusal, unfinished, incorrect_at}

-- the refusal that an error is
abbrev pub refusal_of : ChineseToAmountError → AmountRefusal
refusal_of Unfinished = unfinished
refusal_of (Incorrect char_index) = incorrect_at char_index

-- the answer that the result of a call is
abbrev pub answer_of : {A : Type 0} → Result A ChineseToAmountError → Result A AmountRefusal
answer_of (Ok fen) = Ok fen
answer_of (Err error) = Err (refusal_of error)
