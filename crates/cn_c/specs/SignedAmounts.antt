-- What the calls for amounts that may be below zero, for typed amounts and for figures write and
-- return.
use Rattle.std.specs.Prelude.{◌≡◌, ℕ, ℤ, pos, int_lt, nat_abs, nat_lt, List, encode_utf8_all, Option, Some, Result, Ok, Err, slice_get, if◌then◌else◌}
use Rattle.std.specs.Bool.{MatchBool}
use Rattle.std.specs.Str.{is_utf8}
use Rattle.chinese_number.specs.declared.AmountForm.{AmountForm}
use Rattle.chinese_number.specs.declared.ChineseVariant.{ChineseVariant}
use Rattle.chinese_number.specs.AmountPlaces.{amount_limit}
use Rattle.chinese_number.specs.AmountReading.{AmountRefusal, unfinished, incorrect_at}
use Rattle.chinese_number.specs.AmountSigned.{ReadsSignedAmount}
use Rattle.chinese_number.specs.AmountTyped.{ReadsTypedAmount, ReadsTypedSignedAmount}
use Rattle.cn_amount.specs.Invoice.{invoice_amount_text}
use Rattle.cn_figures.specs.declared.FiguresError.{FiguresError}
use Rattle.cn_figures.specs.declared.FiguresError.TheVariants.{Unfinished, Incorrect, TooLarge}
use Rattle.cn_figures.specs.Figures.{ReadsSignedFigures}
use Rattle.cn_c.specs.declared.amount.Amount.{Amount}
use Rattle.cn_c.specs.declared.signed_amount.SignedAmount.{SignedAmount}
use Rattle.cn_c.specs.Amounts.{TellsAmount, no_amount}
use Rattle.cn_judge.specs.ByteIndex.{byte_index}
use Rattle.cn_c.specs.Codes.{scripts, form_of, CN_DONE, CN_INCORRECT, CN_TOO_LARGE, CN_TOO_SMALL, CN_NOT_UTF8, CN_UNKNOWN, CN_UNFINISHED}
use Rattle.cn_c.specs.Prints.{PutsNothing, PutsIfItFits}

-- the result of printing an amount in a script and a form, or UNKNOWN if one is not named: its text
-- if its magnitude is below the limit, and otherwise TOO_SMALL or TOO_LARGE
abbrev pub IsSignedPrintedAs : ℤ → Option ChineseVariant → Option AmountForm → List ℕ → ℕ
    → List ℕ → ℕ → Type 0
IsSignedPrintedAs fen (Some script) (Some form) old status new len =
    MatchBool (nat_lt (nat_abs fen) amount_limit)
    (PutsIfItFits (encode_utf8_all (invoice_amount_text script form fen)) old status new len)
    (PutsNothing (if int_lt fen (pos 0) then CN_TOO_SMALL else CN_TOO_LARGE) old status new len)
IsSignedPrintedAs fen script form old status new len = PutsNothing CN_UNKNOWN old status new len

-- the result of printing an amount, given the code of a script and the flags of a form
abbrev pub IsSignedPrinted : ℤ → ℕ → ℕ → List ℕ → ℕ → List ℕ → ℕ → Type 0
IsSignedPrinted fen script form old status new len =
    IsSignedPrintedAs fen (slice_get scripts script) (form_of form) old status new len

-- what is written for an amount
abbrev pub signed_told : ℤ → SignedAmount
signed_told fen = record { fen = fen; char_index = 0; byte_index = 0 }

-- what is written if there is no amount: 0, and the position of a fault
abbrev pub no_signed : ℕ → ℕ → SignedAmount
no_signed char_index byte_index =
    record { fen = pos 0; char_index = char_index; byte_index = byte_index }

-- the answer to a text is shown by the status and by what is written
abbrev pub TellsSigned : List ℕ → Result ℤ AmountRefusal → ℕ → SignedAmount → Type 0
TellsSigned text (Ok fen) status amount = (status ≡ CN_DONE) × (amount ≡ signed_told fen)
TellsSigned text (Err unfinished) status amount =
    (status ≡ CN_UNFINISHED) × (amount ≡ no_signed 0 0)
TellsSigned text (Err (incorrect_at char_index)) status amount =
    (status ≡ CN_INCORRECT) × (amount ≡ no_signed char_index (byte_index text char_index))

-- the answer to figures is shown by the status and by what is written
abbrev pub TellsFigures : List ℕ → Result ℤ FiguresError → ℕ → SignedAmount → Type 0
TellsFigures text (Ok fen) status amount = (status ≡ CN_DONE) × (amount ≡ signed_told fen)
TellsFigures text (Err Unfinished) status amount =
    (status ≡ CN_UNFINISHED) × (amount ≡ no_signed 0 0)
TellsFigures text (Err TooLarge) status amount =
    (status ≡ CN_TOO_LARGE) × (amount ≡ no_signed 0 0)
TellsFigures text (Err (Incorrect char_index)) status amount =
    (status ≡ CN_INCORRECT) × (amount ≡ no_signed char_index (byte_index text char_index))

-- the result of reading bytes as an amount that may be below zero
abbrev pub IsSignedRead : List ℕ → ℕ → SignedAmount → Type 0
IsSignedRead bytes status amount =
    MatchBool (is_utf8 bytes)
    ((answer : Result ℤ AmountRefusal) × ReadsSignedAmount bytes answer
    × TellsSigned bytes answer status amount)
    ((status ≡ CN_NOT_UTF8) × (amount ≡ no_signed 0 0))

-- the result of reading bytes as an amount as people type it
abbrev pub IsTypedRead : List ℕ → ℕ → Amount → Type 0
IsTypedRead bytes status amount =
    MatchBool (is_utf8 bytes)
    ((answer : Result ℕ AmountRefusal) × ReadsTypedAmount bytes answer
    × TellsAmount bytes answer status amount)
    ((status ≡ CN_NOT_UTF8) × (amount ≡ no_amount 0 0))

-- the same for an amount as people type it, with or without a sign
abbrev pub IsTypedSignedRead : List ℕ → ℕ → SignedAmount → Type 0
IsTypedSignedRead bytes status amount =
    MatchBool (is_utf8 bytes)
    ((answer : Result ℤ AmountRefusal) × ReadsTypedSignedAmount bytes answer
    × TellsSigned bytes answer status amount)
    ((status ≡ CN_NOT_UTF8) × (amount ≡ no_signed 0 0))

-- the result of reading bytes as an amount in figures
abbrev pub IsFiguresRead : List ℕ → ℕ → SignedAmount → Type 0
IsFiguresRead bytes status amount =
    MatchBool (is_utf8 bytes)
    ((answer : Result ℤ FiguresError) × ReadsSignedFigures bytes answer
    × TellsFigures bytes answer status amount)
    ((status ≡ CN_NOT_UTF8) × (amount ≡ no_signed 0 0))
