-- What is printed for a date is read back as the same date.
use Rattle.std.proofs.Common.{◌≡◌, ℕ, inl, inr, List, take, chars, encode_utf8_all, Option, Some, None, Result, Ok, sym, subst, arith}
use Rattle.std.specs.Str.{IsUtf8}
use Rattle.cn_core.specs.declared.script.ChineseVariant.{ChineseVariant}
use Rattle.cn_date.specs.declared.date.BillDate.{BillDate}
use Rattle.cn_date.specs.Calendar.{IsDate}
use Rattle.cn_date.specs.Reading.{DateRefusal, IsDateText, ReadsDate}
use Rattle.cn_date.specs.Working.Steps.{date_machine}
use Rattle.cn_date.specs.Writes.{date_text}
use Rattle.cn_date.proofs.ReadText.{date_reads}
use Rattle.cn_grammar.proofs.OneAnswer as every
use Rattle.cn_date.proofs.Written.{written-read, written-utf8}
use Rattle.cn_c.specs.declared.date.Date.{Date}
use Rattle.cn_c.specs.Dates.{date_told, no_date, TellsDate, IsDateRead, IsDatePrintedAs}
use Rattle.cn_c.specs.Codes.{CN_DONE}
use Rattle.cn_c.proofs.ReadBack.{put-text}
use Rattle.cn_c.proofs.ToldBack.{told-back}

-- the one answer to a text that is written for a date is this date
one-answer : (script : ChineseVariant) (date : BillDate) (text : List ℕ) (answer : Result BillDate DateRefusal)
    → IsDate date → text ≡ encode_utf8_all (date_text script date)
    → ReadsDate text answer → answer ≡ Ok date
one-answer script date text answer there is reads =
    every.one-answer IsDateText (every.one-value IsDateText date_machine date_reads) (chars text)
    answer (Ok date) reads
    (subst (λ text. ReadsDate text (Ok date)) (sym is) (written-read script date there))

pub date-back : (date : BillDate) (script : Option ChineseVariant) (old new : List ℕ) (len : ℕ)
    → IsDatePrintedAs date script old CN_DONE new len
    → IsUtf8 (take len new)
    × ((status : ℕ) (told : Date) → IsDateRead (take len new) status told
    → (status ≡ CN_DONE) × (told ≡ date_told date))
date-back date None old new len printed = absurd (omega (arith, printed.0))
date-back date (Some script) old new len (inr none) = absurd (omega (arith, none.1.0))
date-back date (Some script) old new len (inl put) =
    let text = put-text (encode_utf8_all (date_text script date)) old new len put.1 in
    let utf8 = written-utf8 script date (take len new) put.0 text in (
      utf8,
      told-back ReadsDate TellsDate (λ status told. (status ≡ 5) × (told ≡ no_date 0 0)) (take len new) date utf8
          (λ answer. one-answer script date (take len new) answer put.0 text),
    )
