-- What the calls for columns write and return.
use Rattle.std.specs.Prelude.{◌≡◌, ℕ, ◌-◌, ◌^◌, ◌≤◌, ◌==◌, ℤ, pos, nat_lt, min, Bool, true, false, List, ◌++◌, length, take, drop, Option, Some, None, slice_get, if◌then◌else◌}
use Rattle.chinese_number.specs.declared.ChineseCase.{ChineseCase}
use Rattle.chinese_number.specs.declared.ChineseVariant.{ChineseVariant}
use Rattle.std.specs.Bool.{MatchBool}
use Rattle.cn_columns.specs.Columns.{Column, IsPrinted, Row, rows_of}
use Rattle.cn_dynamic.specs.declared.IntegerType.{IntegerType}
use Rattle.cn_dynamic.specs.IntegerTypes.{the_kind}
use Rattle.cn_c.specs.declared.codes.NamedWay.{NamedWay}
use Rattle.cn_c.specs.declared.number.Number.{Number}
use Rattle.cn_c.specs.Codes.{kinds, named_ways, scripts, cases, form_of, inputs, CN_DONE, CN_NONE, CN_NO_ROOM, CN_UNKNOWN}
use Rattle.cn_c.specs.declared.amount.Amount.{Amount as ReadAmount}
use Rattle.cn_c.specs.declared.date.Date.{Date}
use Rattle.cn_c.specs.declared.date_column.Day.{Day}
use Rattle.cn_c.specs.declared.reading.Reading.{Reading}
use Rattle.cn_c.specs.declared.signed_amount.SignedAmount.{SignedAmount}
use Rattle.cn_c.specs.Dates.{IsDatePrintedAs, IsDateRead, date}
use Rattle.cn_c.specs.Prints.{IsPrintedAs}
use Rattle.cn_c.specs.Reads.{IsReadAs}
use Rattle.cn_c.specs.Amounts.{IsAmountRead}
use Rattle.cn_c.specs.SignedAmounts.{IsSignedPrintedAs, IsSignedRead, IsTypedRead, IsTypedSignedRead, IsFiguresRead}
use Rattle.cn_columns.specs.Reading.{IsRead}
use Rattle.cn_message.specs.declared.input.Input.{Input}
use Rattle.cn_message.specs.declared.input.Input.TheVariants.{Amount, SignedAmount as Signed, TypedAmount, TypedSignedAmount, Date as ADate, Figures}
use Rattle.chinese_number.specs.declared.AmountForm.{AmountForm}

-- a row is what a call for one value answers, if its buffer is large enough: its status is what the
-- call returns, and its text what the call writes at the start of the buffer
abbrev pub IsAnswered : (List ℕ → ℕ → List ℕ → ℕ → Type 0) → Row → Type 0
IsAnswered call row =
    (old : List ℕ) (status : ℕ) (new : List ℕ) (len : ℕ) → call old status new len → len ≤ length old
    → (status ≡ row.status) × (new ≡ row.text ++ drop (length row.text) old)
    × (len ≡ length row.text)

-- how many rows a column of these values has: as many as the shortest of its arrays has
abbrev pub count_of : {V : Type 0} → List V → Column → ℕ
count_of values old = min (length values) (min (length old.offsets - 1) (length old.statuses))

-- the rows of a column from its first row on, as far as they fit, are written; all of them, or there
-- is no room for the next one
pub record IsPart {V : Type 0} (row : V → Row) (values : List V) (bitmap : List ℕ) (first : ℕ)
    (old : Column) (status : ℕ) (new : Column) (done : ℕ) : Type 0 where
  pub printed : IsPrinted (take (count_of values old) (rows_of row CN_NONE bitmap first values)) old new done
  pub all_or_no_room : status ≡ if done == count_of values old then CN_DONE else CN_NO_ROOM

-- row i of the column is what the call answers for value i
pub record IsColumn {V : Type 0} (call : V → List ℕ → ℕ → List ℕ → ℕ → Type 0) (values : List V)
    (bitmap : List ℕ) (first : ℕ) (old : Column) (status : ℕ) (new : Column) (done : ℕ) : Type 0 where
  pub row : V → Row
  pub answered : (value : V) → IsAnswered (call value) (row value)
  pub part : IsPart row values bitmap first old status new done

-- no row is written, and this is the status
abbrev pub IsNoColumn : ℕ → Column → ℕ → Column → ℕ → Type 0
IsNoColumn why old status new done = (status ≡ why) × (new ≡ old) × (done ≡ 0)

-- the number of 64 bits, in two halves; for a signed type it is in two's complement
abbrev pub widened : Bool → ℕ → Number
widened false value = record { low = value; high = 0 }
widened true value =
    record { low = value; high = if nat_lt value (2 ^ 63) then 0 else 2 ^ 64 - 1 }

-- the result of printing a column of numbers of a type, given how its values stand for halves, or
-- UNKNOWN if a type, way, script or case is not named
abbrev pub AreNumbersPrintedAs : {V : Type 0} → (Bool → V → Number) → List V → List ℕ → ℕ
    → Option IntegerType → Option NamedWay → Option ChineseVariant → Option ChineseCase
    → Column → ℕ → Column → ℕ → Type 0
AreNumbersPrintedAs halves values bitmap first (Some integer) (Some way) (Some script) (Some case) old status new done =
    IsColumn
    (λ value. IsPrintedAs (halves (the_kind integer).signed value) (Some integer) (Some way) (Some script) (Some case))
    values bitmap first old status new done
AreNumbersPrintedAs halves values bitmap first integer way script case old status new done =
    IsNoColumn CN_UNKNOWN old status new done

-- the result of printing a column of numbers of 64 bits, given the codes of a type, a way, a script
-- and a case: row i is what the call for one number answers for value i
abbrev pub AreNumbersPrinted : List ℕ → List ℕ → ℕ → ℕ → ℕ → ℕ → ℕ → Column → ℕ → Column → ℕ → Type 0
AreNumbersPrinted values bitmap first kind way script case old status new done =
    AreNumbersPrintedAs widened values bitmap first (slice_get kinds kind) (slice_get named_ways way)
    (slice_get scripts script) (slice_get cases case) old status new done

-- the same for numbers of 128 bits
abbrev pub AreWideNumbersPrinted : List Number → List ℕ → ℕ → ℕ → ℕ → ℕ → ℕ → Column → ℕ → Column
    → ℕ → Type 0
AreWideNumbersPrinted values bitmap first kind way script case old status new done =
    AreNumbersPrintedAs (λ signed number. number) values bitmap first (slice_get kinds kind)
    (slice_get named_ways way) (slice_get scripts script) (slice_get cases case) old status new done

-- the result of printing a column of amounts in a script and a form, or UNKNOWN if one is not named
abbrev pub AreAmountsPrintedAs : List ℤ → List ℕ → ℕ → Option ChineseVariant → Option AmountForm
    → Column → ℕ → Column → ℕ → Type 0
AreAmountsPrintedAs values bitmap first (Some script) (Some form) old status new done =
    IsColumn (λ fen. IsSignedPrintedAs fen (Some script) (Some form)) values bitmap first old status
    new done
AreAmountsPrintedAs values bitmap first script form old status new done =
    IsNoColumn CN_UNKNOWN old status new done

-- the result of printing a column of amounts, given the code of a script and the flags of a form:
-- row i is what the call for one amount that may be below zero answers for value i
abbrev pub AreAmountsPrinted : List ℤ → List ℕ → ℕ → ℕ → ℕ → Column → ℕ → Column → ℕ → Type 0
AreAmountsPrinted values bitmap first script form old status new done =
    AreAmountsPrintedAs values bitmap first (slice_get scripts script) (form_of form) old status new done

-- the result of printing a column of dates in a script, or UNKNOWN if it is not named
abbrev pub AreDatesPrintedAs : List Day → List ℕ → ℕ → Option ChineseVariant → Column → ℕ → Column
    → ℕ → Type 0
AreDatesPrintedAs values bitmap first (Some script) old status new done =
    IsColumn (λ day. IsDatePrintedAs (date day.year day.month day.day) (Some script)) values bitmap
    first old status new done
AreDatesPrintedAs values bitmap first None old status new done = IsNoColumn CN_UNKNOWN old status new done

-- the result of printing a column of dates, given the code of a script: row i is what the call for
-- one date answers for value i
abbrev pub AreDatesPrinted : List Day → List ℕ → ℕ → ℕ → Column → ℕ → Column → ℕ → Type 0
AreDatesPrinted values bitmap first script old status new done =
    AreDatesPrintedAs values bitmap first (slice_get scripts script) old status new done

-- a column of texts that is read: its bytes, its offsets, its bitmap and the bit of its first row
pub record Texts : Type 0 where
  pub bytes : List ℕ
  pub offsets : List ℕ
  pub bitmap : List ℕ
  pub first : ℕ

-- row i is what the call for one text answers for the text of row i. A missing row is 0 with the
-- status NONE, and one whose offsets are not those of a text is 0 with the status NO_ROOM.
pub record AreRead {V : Type 0} (is_answer : List ℕ → ℕ → V → Type 0) (nothing : V) (texts : Texts)
    (old : List V) (old_statuses : List ℕ) (status : ℕ) (new : List V) (statuses : List ℕ) : Type 0 where
  pub done : status ≡ CN_DONE
  pub rows : IsRead is_answer texts.bytes texts.offsets texts.bitmap texts.first nothing CN_NONE
      CN_NO_ROOM old old_statuses new statuses

-- nothing is read, since a code is not named
abbrev pub AreNotRead : {V : Type 0} → List V → List ℕ → ℕ → List V → List ℕ → Type 0
AreNotRead old old_statuses status new statuses =
    (status ≡ CN_UNKNOWN) × (new ≡ old) × (statuses ≡ old_statuses)

-- the result of reading a column of numbers of a type in a way, given how halves are a value, or
-- UNKNOWN if the type or the way is not named
abbrev pub AreNumbersReadAs : {V : Type 0} → (Number → V) → Texts → Option IntegerType
    → Option NamedWay → List V → List ℕ → ℕ → List V → List ℕ → Type 0
AreNumbersReadAs value texts (Some integer) (Some way) old old_statuses status new statuses =
    AreRead (λ text status answer. (reading : Reading)
    × IsReadAs (Some integer) (Some way) text status reading × (answer ≡ value reading.number))
    (value (record { low = 0; high = 0 })) texts old old_statuses status new statuses
AreNumbersReadAs value texts integer way old old_statuses status new statuses =
    AreNotRead old old_statuses status new statuses

-- the result of reading a column of numbers as their lower 64 bits, given the codes of a type and a
-- way: row i is what the call for one text answers for the text of row i
abbrev pub AreNumbersRead : Texts → ℕ → ℕ → List ℕ → List ℕ → ℕ → List ℕ → List ℕ → Type 0
AreNumbersRead texts kind way old old_statuses status new statuses =
    AreNumbersReadAs (λ number. number.low) texts (slice_get kinds kind) (slice_get named_ways way)
    old old_statuses status new statuses

-- the same for numbers of 128 bits
abbrev pub AreWideNumbersRead : Texts → ℕ → ℕ → List Number → List ℕ → ℕ → List Number → List ℕ → Type 0
AreWideNumbersRead texts kind way old old_statuses status new statuses =
    AreNumbersReadAs (λ number. number) texts (slice_get kinds kind) (slice_get named_ways way)
    old old_statuses status new statuses

-- the result of reading a column of dates: row i is what the call for one text answers for the text
-- of row i
abbrev pub AreDatesRead : Texts → List Day → List ℕ → ℕ → List Day → List ℕ → Type 0
AreDatesRead texts old old_statuses status new statuses =
    AreRead (λ text status day. (read : Date) × IsDateRead text status read
    × (day ≡ record { year = read.year; month = read.month; day = read.day }))
    (record { year = 0; month = 0; day = 0 }) texts old old_statuses status new statuses

-- whether a status and an amount in fen are what the call that reads such an input answers for a
-- text; a date is no amount
abbrev pub IsAmountAnswer : Input → List ℕ → ℕ → ℤ → Type 0
IsAmountAnswer Amount text status fen =
    (read : ReadAmount) × IsAmountRead text status read × (fen ≡ pos read.fen)
IsAmountAnswer TypedAmount text status fen =
    (read : ReadAmount) × IsTypedRead text status read × (fen ≡ pos read.fen)
IsAmountAnswer Signed text status fen =
    (read : SignedAmount) × IsSignedRead text status read × (fen ≡ read.fen)
IsAmountAnswer TypedSignedAmount text status fen =
    (read : SignedAmount) × IsTypedSignedRead text status read × (fen ≡ read.fen)
IsAmountAnswer Figures text status fen =
    (read : SignedAmount) × IsFiguresRead text status read × (fen ≡ read.fen)
IsAmountAnswer ADate text status fen = (status ≡ CN_UNKNOWN) × (fen ≡ pos 0)

-- whether the input is an amount
abbrev pub is_amount : Input → Bool
is_amount ADate = false
is_amount input = true

-- the result of reading a column of amounts of fen, or UNKNOWN if the input is not named, or is no
-- amount
abbrev pub AreAmountsReadAs : Texts → Option Input → List ℤ → List ℕ → ℕ → List ℤ → List ℕ → Type 0
AreAmountsReadAs texts (Some input) old old_statuses status new statuses =
    MatchBool (is_amount input)
    (AreRead (IsAmountAnswer input) (pos 0) texts old old_statuses status new statuses)
    (AreNotRead old old_statuses status new statuses)
AreAmountsReadAs texts None old old_statuses status new statuses =
    AreNotRead old old_statuses status new statuses

-- the result of reading a column of amounts, given the code of an input: row i is what the call that
-- reads it answers for the text of row i
abbrev pub AreAmountsRead : Texts → ℕ → List ℤ → List ℕ → ℕ → List ℤ → List ℕ → Type 0
AreAmountsRead texts input old old_statuses status new statuses =
    AreAmountsReadAs texts (slice_get inputs input) old old_statuses status new statuses
