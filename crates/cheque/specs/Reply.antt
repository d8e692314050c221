-- The reply to a request.
use Rattle.std.specs.Prelude.{◌≡◌, ◌⊎◌, ◌++◌, ℕ, Bool, false, List, [], ◌∷◌, Option, Some, None, Result, Ok, Err, encode_utf8_all}
use Rattle.std.specs.Io.KnownBytes.{Appends}
use Rattle.chinese_number.specs.AmountAnswer as AmountAnswer
use Rattle.chinese_number.specs.AmountErrorText as AmountErrorText
use Rattle.chinese_number.specs.AmountReading.{ReadsAmount}
use Rattle.chinese_number.specs.AmountWrites.{amount_text}
use Rattle.chinese_number.specs.DateAnswer as DateAnswer
use Rattle.chinese_number.specs.DateCalendar.{IsDate}
use Rattle.chinese_number.specs.DateErrorText as DateErrorText
use Rattle.chinese_number.specs.DateReading.{ReadsDate}
use Rattle.chinese_number.specs.DateWrites.{date_text}
use Rattle.chinese_number.specs.declared.AmountForm.{AmountForm}
use Rattle.chinese_number.specs.declared.BillDate.{BillDate}
use Rattle.chinese_number.specs.declared.ChineseToAmountError.{ChineseToAmountError}
use Rattle.chinese_number.specs.declared.ChineseToDateError.{ChineseToDateError}
use Rattle.chinese_number.specs.declared.ChineseVariant.TheVariants.{Simple}
use Rattle.chinese_number.specs.declared.DateToChineseError.TheVariants.{NotADate}
use Rattle.cn_figures.specs.declared.error.FiguresError.{FiguresError}
use Rattle.cn_figures.specs.ErrorText as FiguresErrorText
use Rattle.cn_figures.specs.Figures as Figures
use Rattle.cheque.specs.declared.reply.TheConstants.{USAGE}
use Rattle.cheque.specs.DateFigures as DateFigures
use Rattle.cheque.specs.Request.{Asked, help, write, read, write_date, read_date}

-- what is written to the output and to the errors, and the exit status
pub record Reply : Type 0 where
  pub output : List ℕ
  pub errors : List ℕ
  pub status : ℕ

-- a text and a line feed
abbrev pub line : List ℕ → List ℕ
line text = text ++ 10 ∷ []

-- the request is answered
abbrev pub answered : List ℕ → Reply
answered text = record { output = line text; errors = []; status = 0 }

-- the request is refused
abbrev pub refused : List ℕ → Reply
refused text = record { output = []; errors = line text; status = 1 }

-- there was no memory for the answer
abbrev pub out_of_memory : Reply
out_of_memory = record { output = []; errors = []; status = 2 }

-- the words ask for nothing
abbrev pub not_asked : Reply
not_asked = record { output = []; errors = line USAGE.now; status = 2 }

-- the request is answered, or there was no memory for the answer
abbrev pub AnswersInMemory : List ℕ → Reply → Type 0
AnswersInMemory text reply = (reply ≡ answered text) ⊎ (reply ≡ out_of_memory)

-- the form in which capitals are written: with or without 人民币 before them
abbrev pub form_of : Bool → AmountForm
form_of prefixed = record {
  currency = prefixed;
  round_yuan = false;
  upright_closing = false;
  bracketed_sign = false;
}

-- the reply with the capitals of an amount, given the answer to its figures
abbrev pub IsCapitalsReply : Bool → Result ℕ FiguresError → Reply → Type 0
IsCapitalsReply prefixed (Ok fen) reply =
    AnswersInMemory (encode_utf8_all (amount_text Simple (form_of prefixed) fen)) reply
IsCapitalsReply prefixed (Err error) reply = reply ≡ refused (FiguresErrorText.refusal_text error)

-- the reply with the capitals of an amount in figures
abbrev pub RepliesCapitals : Bool → List ℕ → Reply → Type 0
RepliesCapitals prefixed figures reply =
    (result : Result ℕ FiguresError)
    × Figures.ReadsFigures figures result × IsCapitalsReply prefixed result reply

-- the reply with the figures of an amount, given the answer to its capitals
abbrev pub figures_reply : Result ℕ ChineseToAmountError → Reply
figures_reply (Ok fen) = answered (Figures.figures_of fen)
figures_reply (Err error) = refused (AmountErrorText.reading_error_text error)

-- the reply with the figures of an amount in capitals
abbrev pub RepliesFigures : List ℕ → Reply → Type 0
RepliesFigures capitals reply =
    (result : Result ℕ ChineseToAmountError)
    × ReadsAmount capitals (AmountAnswer.answer_of result) × (reply ≡ figures_reply result)

-- the reply with the capitals of a date, given the answer to its figures
abbrev pub IsDateCapitalsReply : Result BillDate ChineseToDateError → Reply → Type 0
IsDateCapitalsReply (Ok date) reply =
    (IsDate date × AnswersInMemory (encode_utf8_all (date_text Simple date)) reply)
    ⊎ (¬ IsDate date × (reply ≡ refused (DateErrorText.writing_error_text NotADate)))
IsDateCapitalsReply (Err error) reply = reply ≡ refused (DateErrorText.reading_error_text error)

-- the reply with the capitals of a date in figures
abbrev pub RepliesDateCapitals : List ℕ → Reply → Type 0
RepliesDateCapitals figures reply =
    (result : Result BillDate ChineseToDateError)
    × DateFigures.ReadsDateFigures figures result × IsDateCapitalsReply result reply

-- the reply with the figures of a date, given the answer to its capitals
abbrev pub date_figures_reply : Result BillDate ChineseToDateError → Reply
date_figures_reply (Ok date) = answered (DateFigures.figures_of date)
date_figures_reply (Err error) = refused (DateErrorText.reading_error_text error)

-- the reply with the figures of a date in capitals
abbrev pub RepliesDateFigures : List ℕ → Reply → Type 0
RepliesDateFigures capitals reply =
    (result : Result BillDate ChineseToDateError)
    × ReadsDate capitals (DateAnswer.answer_of result) × (reply ≡ date_figures_reply result)

-- the reply to what is asked for
abbrev pub Replies : Option Asked → Reply → Type 0
Replies (Some help) reply = reply ≡ answered USAGE.now
Replies (Some (write figures prefixed)) reply = RepliesCapitals prefixed figures reply
Replies (Some (read capitals)) reply = RepliesFigures capitals reply
Replies (Some (write_date figures)) reply = RepliesDateCapitals figures reply
Replies (Some (read_date capitals)) reply = RepliesDateFigures capitals reply
Replies None reply = reply ≡ not_asked

-- such a reply is given: the status is its own, and its two texts are what was added to the output
-- and to the errors, which are given by their bytes before and after
abbrev pub Gives : (Reply → Type 0) → ℕ → Option (List ℕ) → Option (List ℕ) → Option (List ℕ)
    → Option (List ℕ) → Type 0
Gives IsRight status output new_output errors new_errors =
    (reply : Reply) × IsRight reply × (status ≡ reply.status)
    × Appends output new_output reply.output × Appends errors new_errors reply.errors
