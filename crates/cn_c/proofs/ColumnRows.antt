-- The rows of columns are what the calls for one value answer.
use Rattle.std.proofs.Common.{◌≡◌, ◌≤◌, ◌++◌, ℕ, ℤ, pos, int_lt, nat_abs, nat_le, nat_lt, Bool, true, false, List, length, drop, encode_utf8_all, Option, Some, None, Result, Ok, Err, refl, ap, arith, inl, inr, if◌then◌else◌}
use Rattle.std.specs.Bool.{MatchBool}
use Rattle.chinese_number.specs.declared.AmountForm.{AmountForm}
use Rattle.chinese_number.specs.declared.ChineseCase.{ChineseCase}
use Rattle.chinese_number.specs.declared.ChineseVariant.{ChineseVariant}
use Rattle.chinese_number.specs.AmountPlaces.{amount_limit}
use Rattle.chinese_number.specs.Refusal.{Refusal}
use Rattle.chinese_number.specs.Whole.{holds}
use Rattle.cn_amount.specs.Invoice.{invoice_amount_text}
use Rattle.cn_dynamic.specs.declared.IntegerType.{IntegerType}
use Rattle.cn_dynamic.specs.IntegerTypes.{the_kind}
use Rattle.cn_dynamic.specs.Ways.{written_by}
use Rattle.cn_c.specs.declared.codes.NamedWay.{NamedWay}
use Rattle.cn_c.specs.declared.number.Number.{Number}
use Rattle.cn_c.specs.Codes.{refusal_status, CN_DONE, CN_NO_ROOM, CN_NOT_A_DATE, CN_NOT_HELD, CN_TOO_LARGE, CN_TOO_SMALL}
use Rattle.cn_c.specs.Columns.{AreAmountsPrintedAs, AreDatesPrintedAs, AreNumbersPrintedAs, AreNumbersReadAs, AreRead, IsAnswered, IsPart, Texts}
use Rattle.cn_c.specs.Halves.{number_of}
use Rattle.cn_c.specs.Prints.{IsPrintedAs, PutsIfItFits, PutsNothing, PutsWritten, way_written}
use Rattle.cn_c.specs.Private.Rows.{amount_row, date_row, is_date, number_row, refused, row_written, style_of}
use Rattle.cn_c.specs.declared.printing.Style.{Style}
use Rattle.cn_c.specs.Dates.{IsDatePrintedAs, date}
use Rattle.cn_c.specs.declared.reading.Reading.{Reading}
use Rattle.cn_c.specs.declared.date_column.Day.{Day}
use Rattle.cn_c.specs.Reads.{IsReadAs}
use Rattle.cn_date.specs.declared.date.BillDate.{BillDate}
use Rattle.cn_date.specs.Calendar.{IsDate}
use Rattle.cn_date.specs.Writes.{date_text}
use Rattle.cn_columns.specs.Columns.{Column}
use Rattle.std.proofs.lemmas.Bool.Decides.{nat_tests}
use Rattle.cn_c.specs.SignedAmounts.{IsSignedPrintedAs}

-- a text that fits is a row
fits-if : (fits : Bool) (text old : List ℕ) (status : ℕ) (new : List ℕ) (len : ℕ)
    → fits ≡ nat_le (length text) (length old)
    → MatchBool fits
    ((status ≡ CN_DONE) × (new ≡ text ++ drop (length text) old) × (len ≡ length text))
    ((status ≡ CN_NO_ROOM) × (new ≡ old) × (len ≡ length text))
    → len ≤ length old
    → (status ≡ CN_DONE) × (new ≡ text ++ drop (length text) old) × (len ≡ length text)
fits-if true text old status new len e put room = put
fits-if false text old status new len e put room = absurd (grind (arith, e, put.2, room))

pub text-answered : (text : List ℕ)
    → IsAnswered (PutsIfItFits text) (record { status = CN_DONE; text = text })
text-answered text old status new len put room =
    fits-if (nat_le (length text) (length old)) text old status new len refl put room

pub refusal-answered : (why : ℕ) → IsAnswered (PutsNothing why) (refused why)
refusal-answered why old status new len none room = none

written-answered : (written : Result (List ℕ) Refusal) → IsAnswered (PutsWritten written) (row_written written)
written-answered (Ok characters) = text-answered (encode_utf8_all characters)
written-answered (Err refusal) = refusal-answered (refusal_status refusal)

held-answered : (held : Bool) (written : Result (List ℕ) Refusal)
    → IsAnswered
    (λ old status new len. MatchBool held (PutsWritten written old status new len)
    (PutsNothing CN_NOT_HELD old status new len))
    (if held then row_written written else refused CN_NOT_HELD)
held-answered true written = written-answered written
held-answered false written = refusal-answered CN_NOT_HELD

-- the row of a number
pub number-answered : (integer : IntegerType) (way : NamedWay) (script : ChineseVariant) (case : ChineseCase)
    (number : Number)
    → IsAnswered (IsPrintedAs number (Some integer) (Some way) (Some script) (Some case))
    (number_row (the_kind integer) way script case (number_of (the_kind integer).signed number))
number-answered integer way script case number =
    let value : ℤ = number_of (the_kind integer).signed number in
    held-answered (holds (the_kind integer) value)
    (written_by (way_written way script (nat_abs value)) script case value)

limited-answered : (small : Bool) (text : List ℕ) (why : ℕ)
    → IsAnswered
    (λ old status new len. MatchBool small (PutsIfItFits text old status new len)
    (PutsNothing why old status new len))
    (if small then record { status = CN_DONE; text = text } else refused why)
limited-answered true text why = text-answered text
limited-answered false text why = refusal-answered why

-- the row of an amount
pub amount-answered : (script : ChineseVariant) (form : AmountForm) (fen : ℤ)
    → IsAnswered (IsSignedPrintedAs fen (Some script) (Some form)) (amount_row script form fen)
amount-answered script form fen =
    limited-answered (nat_lt (nat_abs fen) amount_limit)
    (encode_utf8_all (invoice_amount_text script form fen))
    (if int_lt fen (pos 0) then CN_TOO_SMALL else CN_TOO_LARGE)

-- a date exists or not
exists : (day : BillDate) → is_date day ≡ true → IsDate day
exists day e = grind (arith, nat_tests, e)

exists-not : (day : BillDate) → is_date day ≡ false → IsDate day → ⊥
exists-not day e is = grind (arith, nat_tests, e, is)

-- the row of a date
dated-answered : (found : Bool) (script : ChineseVariant) (day : BillDate) → is_date day ≡ found
    → IsAnswered (IsDatePrintedAs day (Some script))
    (if found then record { status = CN_DONE; text = encode_utf8_all (date_text script day) }
    else refused CN_NOT_A_DATE)
dated-answered true script day e old status new len (inl written) room =
    text-answered (encode_utf8_all (date_text script day)) old status new len written.1 room
dated-answered true script day e old status new len (inr refusal) room = absurd (refusal.0 (exists day e))
dated-answered false script day e old status new len (inl written) room =
    absurd (exists-not day e written.0)
dated-answered false script day e old status new len (inr refusal) room = refusal.1

pub date-answered : (script : ChineseVariant) (day : BillDate)
    → IsAnswered (IsDatePrintedAs day (Some script)) (date_row script day)
date-answered script day = dated-answered (is_date day) script day refl

-- a style is named exactly if its parts are
styled : (ways : Option NamedWay) (hand : Option ChineseVariant) (size : Option ChineseCase) (style : Style)
    → style_of ways hand size ≡ Some style
    → (ways ≡ Some style.way) × (hand ≡ Some style.script) × (size ≡ Some style.case)
styled None hand size style e = absurd (cc)
styled (Some way) None size style e = absurd (cc)
styled (Some way) (Some script) None style e = absurd (cc)
styled (Some way) (Some script) (Some case) style e =
    let same : record { way = way; script = script; case = case } ≡ style = cc in
    (ap (λ (it : Style). Some it.way) same, ap (λ (it : Style). Some it.script) same, ap (λ (it : Style). Some it.case) same)

-- columns of these rows
pub numbers-printed : {V : Type 0} (halves : Bool → V → Number) (values : List V) (bitmap : List ℕ)
    (first : ℕ) (kind : Option IntegerType) (ways : Option NamedWay) (hand : Option ChineseVariant)
    (size : Option ChineseCase) (integer : IntegerType) (style : Style) (old : Column) (status : ℕ) (new : Column) (done : ℕ)
    → kind ≡ Some integer → style_of ways hand size ≡ Some style
    → IsPart
    (λ value. number_row (the_kind integer) style.way style.script style.case
    (number_of (the_kind integer).signed (halves (the_kind integer).signed value)))
    values bitmap first old status new done
    → AreNumbersPrintedAs halves values bitmap first kind ways hand size old status new done
numbers-printed halves values bitmap first kind ways hand size integer style old status new done e f part =
    let named : (ways ≡ Some style.way) × (hand ≡ Some style.script) × (size ≡ Some style.case) =
    styled ways hand size style f in
    rw (e, named.0, named.1, named.2) (record {
      row = λ value. number_row (the_kind integer) style.way style.script style.case
          (number_of (the_kind integer).signed (halves (the_kind integer).signed value));
      answered = λ value. number-answered integer style.way style.script style.case
          (halves (the_kind integer).signed value);
      part = part;
    })

pub amounts-printed : (values : List ℤ) (bitmap : List ℕ) (first : ℕ) (hand : Option ChineseVariant)
    (shape : Option AmountForm) (script : ChineseVariant) (form : AmountForm) (old : Column) (status : ℕ)
    (new : Column) (done : ℕ) → hand ≡ Some script → shape ≡ Some form
    → IsPart (amount_row script form) values bitmap first old status new done
    → AreAmountsPrintedAs values bitmap first hand shape old status new done
amounts-printed values bitmap first hand shape script form old status new done e f part =
    rw (e, f) (record {
      row = amount_row script form;
      answered = amount-answered script form;
      part = part;
    })

pub dates-printed : (values : List Day) (bitmap : List ℕ) (first : ℕ) (hand : Option ChineseVariant)
    (script : ChineseVariant) (old : Column) (status : ℕ) (new : Column) (done : ℕ)
    → hand ≡ Some script
    → IsPart (λ day. date_row script (date day.year day.month day.day)) values bitmap first old status
    new done
    → AreDatesPrintedAs values bitmap first hand old status new done
dates-printed values bitmap first hand script old status new done e part =
    rw e (record {
      row = λ day. date_row script (date day.year day.month day.day);
      answered = λ day. date-answered script (date day.year day.month day.day);
      part = part;
    })

pub numbers-read : {V : Type 0} (value : Number → V) (texts : Texts) (kind : Option IntegerType)
    (ways : Option NamedWay) (integer : IntegerType) (way : NamedWay) (old : List V)
    (old_statuses : List ℕ) (status : ℕ) (new : List V) (statuses : List ℕ)
    → kind ≡ Some integer → ways ≡ Some way
    → AreRead (λ text status answer. (reading : Reading) × IsReadAs kind ways text status reading
    × (answer ≡ value reading.number)) (value (record { low = 0; high = 0 })) texts old old_statuses
    status new statuses
    → AreNumbersReadAs value texts kind ways old old_statuses status new statuses
numbers-read value texts kind ways integer way old old_statuses status new statuses e f read =
    rw (e, f) (rw (e, f) at read)
