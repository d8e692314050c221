-- What is written for the lines of an input.
use Rattle.std.specs.Prelude.{◌≡◌, ℕ, ◌+◌, ◌<◌, ◌==◌, ℤ, List, [], ◌∷◌, ◌++◌, length, codes, chars, decimal, Result, Ok, Err, if◌then◌else◌}
use Rattle.std.specs.Bool.{MatchBool}
use Rattle.std.specs.Fmt.{signed_decimal}
use Rattle.std.specs.Io.BufRead.{drop_through, first_piece}
use Rattle.std.specs.Str.{is_utf8}
use Rattle.chinese_number.specs.Number.{IsAnswer}
use Rattle.chinese_number.specs.QuantityReading.{quantity_answer}
use Rattle.chinese_number.specs.Refusal.{Refusal, refusal_text}
use Rattle.chinese_number.specs.Spans.{Span, expressions, spans}
use Rattle.chinese_number.specs.Whole.{unsigned_kind}
use Rattle.chinese_number.specs.declared.Quantity.{Quantity}
use Rattle.numbers.specs.declared.options.Search.{Search}

-- what a search finds in a text: its expressions if it is for quantities, and otherwise its numbers
abbrev pub found_spans : Search → List ℕ → List Span
found_spans search text =
    if search.exact then expressions search.wanted text else spans search.wanted text

-- the text of a quantity: its numerator, and `/` and its denominator if that is not 1
abbrev pub quantity_text : Quantity → List ℕ
quantity_text quantity =
    signed_decimal quantity.numerator
    ++ (if quantity.denominator == 1 then [] else 47 ∷ decimal quantity.denominator)

-- the text of a value, or of the reason why it was refused
abbrev pub answer_text : {T : Type 0} → (T → List ℕ) → Result T Refusal → List ℕ
answer_text value_text (Ok value) = value_text value
answer_text value_text (Err refusal) = codes "err " ++ refusal_text refusal

-- the answer to what was found, which is that of its reader
abbrev pub IsAnswered : Search → List ℕ → List ℕ → Type 0
IsAnswered search text written =
    MatchBool search.exact
    (written ≡ answer_text quantity_text (quantity_answer search.method text))
    ((answer : Result ℤ Refusal) × IsAnswer (unsigned_kind 128) search.method text answer
    × (written ≡ answer_text signed_decimal answer))

-- the position of what was found
abbrev pub place_text : ℕ → ℕ → List ℕ
place_text line column = decimal line ++ 58 ∷ decimal column

-- the line for what was found: LINE:COLUMN TEXT ANSWER
abbrev pub found_text : ℕ → ℕ → List ℕ → List ℕ → List ℕ
found_text line column text answer =
    place_text line column ++ 32 ∷ (text ++ 32 ∷ (answer ++ 10 ∷ []))

-- a line for each of these spans, in order, with the answer of its reader; the column comes after
-- the characters before the span
abbrev pub AreFound : Search → ℕ → List Span → List ℕ → Type 0
AreFound search line [] written = written ≡ []
AreFound search line (span ∷ spans) written =
    (answer : List ℕ) × (rest : List ℕ) × IsAnswered search span.text answer
    × AreFound search line spans rest
    × (written ≡ found_text line (1 + length (chars span.before)) span.text answer ++ rest)

-- what is written for a line, given by its bytes without the line feed
unfoldable pub AnswersLine : Search → ℕ → List ℕ → List ℕ → Type 0
AnswersLine search line bytes written =
    MatchBool (is_utf8 bytes) (AreFound search line (found_spans search bytes) written)
    (written ≡ decimal line ++ codes ":1 bad line\n")

-- these lines are at the start of an input, and `left` is after them. Each line goes up to a line
-- feed, and the last line of the input goes up to its end
abbrev pub AreFirstLines : List (List ℕ) → List ℕ → List ℕ → Type 0
AreFirstLines [] input left = left ≡ input
AreFirstLines (bytes ∷ lines) input left =
    (0 < length input) × (bytes ≡ first_piece 10 input)
    × AreFirstLines lines (drop_through 10 input) left

-- what is written for these lines, the first of which has the number `line`
abbrev pub AnswersLines : Search → ℕ → List (List ℕ) → List ℕ → Type 0
AnswersLines search line [] written = written ≡ []
AnswersLines search line (bytes ∷ lines) written =
    (first : List ℕ) × (rest : List ℕ) × AnswersLine search line bytes first
    × AnswersLines search (line + 1) lines rest × (written ≡ first ++ rest)

-- what is written for the first lines of an input, after which `left` remains
abbrev pub AnswersFirst : Search → List ℕ → List ℕ → List ℕ → Type 0
AnswersFirst search input left written =
    (lines : List (List ℕ)) × AreFirstLines lines input left × AnswersLines search 1 lines written
