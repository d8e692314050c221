-- What the calls for amounts write and return.
use Rattle.std.specs.Prelude.{◌≡◌, ℕ, nat_lt, List, encode_utf8_all, Option, Some, Result, Ok, Err, slice_get}
use Rattle.std.specs.Bool.{MatchBool}
use Rattle.std.specs.Str.{is_utf8}
use Rattle.chinese_number.specs.declared.AmountForm.{AmountForm}
use Rattle.chinese_number.specs.declared.ChineseVariant.{ChineseVariant}
use Rattle.chinese_number.specs.AmountPlaces.{amount_limit}
use Rattle.chinese_number.specs.AmountReading.{AmountRefusal, unfinished, incorrect_at, ReadsAmount}
use Rattle.chinese_number.specs.AmountWrites.{amount_text}
use Rattle.cn_c.specs.declared.amount.Amount.{Amount}
use Rattle.cn_judge.specs.ByteIndex.{byte_index}
use Rattle.cn_c.specs.Codes.{scripts, form_of, CN_DONE, CN_INCORRECT, CN_TOO_LARGE, CN_NOT_UTF8, CN_UNKNOWN, CN_UNFINISHED}
use Rattle.cn_c.specs.Prints.{PutsNothing, PutsIfItFits}

-- the result of printing an amount in a script and a form, or UNKNOWN if one is not named: the text
-- of the amount if it is below the limit, and TOO_LARGE otherwise
abbrev pub IsAmountPrintedAs : ℕ → Option ChineseVariant → Option AmountForm → List ℕ → ℕ
    → List ℕ → ℕ → Type 0
IsAmountPrintedAs fen (Some script) (Some form) old status new len =
    MatchBool (nat_lt fen amount_limit)
    (PutsIfItFits (encode_utf8_all (amount_text script form fen)) old status new len)
    (PutsNothing CN_TOO_LARGE old status new len)
IsAmountPrintedAs fen script form old status new len = PutsNothing CN_UNKNOWN old status new len

-- the result of printing an amount, given the code of a script and the flags of a form
abbrev pub IsAmountPrinted : ℕ → ℕ → ℕ → List ℕ → ℕ → List ℕ → ℕ → Type 0
IsAmountPrinted fen script form old status new len =
    IsAmountPrintedAs fen (slice_get scripts script) (form_of form) old status new len

-- what is written if there is no amount: 0, and the position of a fault
abbrev pub no_amount : ℕ → ℕ → Amount
no_amount char_index byte_index =
    record { fen = 0; char_index = char_index; byte_index = byte_index }

-- the answer to a text is shown by the status and by what is written
abbrev pub TellsAmount : List ℕ → Result ℕ AmountRefusal → ℕ → Amount → Type 0
TellsAmount text (Ok fen) status amount =
    (status ≡ CN_DONE) × (amount ≡ record { fen = fen; char_index = 0; byte_index = 0 })
TellsAmount text (Err unfinished) status amount =
    (status ≡ CN_UNFINISHED) × (amount ≡ no_amount 0 0)
TellsAmount text (Err (incorrect_at char_index)) status amount =
    (status ≡ CN_INCORRECT) × (amount ≡ no_amount char_index (byte_index text char_index))

-- the result of reading bytes as an amount
abbrev pub IsAmountRead : List ℕ → ℕ → Amount → Type 0
IsAmountRead bytes status amount =
    MatchBool (is_utf8 bytes)
    ((answer : Result ℕ AmountRefusal) × ReadsAmount bytes answer
    × TellsAmount bytes answer status amount)
    ((status ≡ CN_NOT_UTF8) × (amount ≡ no_amount 0 0))
