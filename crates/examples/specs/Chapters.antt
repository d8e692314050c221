-- The chapters that a line names, as in 第二十三回.
use Rattle.std.specs.Prelude.{◌≡◌, ℕ, ℤ, Bool, true, ◌&&◌, List, eqb, Result, Ok, Err, codes, encode_utf8_all}
use Rattle.std.specs.List.{Contains, starts_with, ends_with}
use Rattle.chinese_number.specs.Number.{IsAnswer}
use Rattle.chinese_number.specs.Refusal.{Refusal}
use Rattle.chinese_number.specs.Spans.{Span, spans}
use Rattle.chinese_number.specs.Whole.{unsigned_kind}
use Rattle.chinese_number.specs.declared.ChineseCountMethod.TheVariants.{TenThousand}
use Rattle.chinese_number.specs.declared.Wanted.{Wanted}

-- a number of a text is between 第 and 回
abbrev pub names_chapter : Span → Bool
names_chapter span =
    ends_with eqb span.before (encode_utf8_all (codes "第"))
    && starts_with eqb span.after (encode_utf8_all (codes "回"))

-- the span is a number of the line, and is between 第 and 回
abbrev pub IsChapter : Wanted → List ℕ → Span → Type 0
IsChapter wanted line span = Contains (spans wanted line) span × (names_chapter span ≡ true)

-- `answer` is the answer to the span, read as a `u16`
abbrev pub IsAnswered : Span → Result ℤ Refusal → Type 0
IsAnswered span answer = IsAnswer (unsigned_kind 16) TenThousand span.text answer

-- this is the number of a chapter that the line names
abbrev pub HasChapter : Wanted → List ℕ → ℤ → Type 0
HasChapter wanted line number =
    (span : Span) × IsChapter wanted line span × IsAnswered span (Ok number)

-- each chapter that the line names is refused
abbrev pub NoChapter : Wanted → List ℕ → Type 0
NoChapter wanted line = (span : Span) → IsChapter wanted line span
    → (refusal : Refusal) × IsAnswered span (Err refusal)
