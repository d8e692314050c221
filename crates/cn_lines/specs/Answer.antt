-- The answers to lines.
use Rattle.std.specs.Prelude.{◌≡◌, ◌++◌, ℕ, ℤ, List, [], ◌∷◌, codes, encode_utf8_all, Option, Some, None, Result, Ok, Err, if◌then◌else◌}
use Rattle.std.specs.Fmt.{signed_decimal}
use Rattle.chinese_number.specs.declared.ChineseVariant.{ChineseVariant}
use Rattle.chinese_number.specs.declared.ChineseCase.{ChineseCase}
use Rattle.chinese_number.specs.Refusal.{Refusal, refusal_text}
use Rattle.chinese_number.specs.Whole.{Kind, holds}
use Rattle.cn_dynamic.specs.IntegerTypes.{the_kind}
use Rattle.cn_dynamic.specs.Ways.{ReadsBy, written_by}
use Rattle.cn_dynamic.specs.declared.Way.{Way}
use Rattle.cn_lines.specs.Question.{Question, read, print, question_of}

-- the answer to a text that is read, as text
abbrev pub reading_text : Result ℤ Refusal → List ℕ
reading_text (Ok number) = codes "ok " ++ signed_decimal number
reading_text (Err refusal) = codes "err " ++ refusal_text refusal

-- the answer to a line that is not a question
abbrev pub bad_line : List ℕ
bad_line = codes "bad line"

-- `answer` is the answer to a text that is read
abbrev pub AnswersRead : Kind → Way → List ℕ → List ℕ → Type 0
AnswersRead kind way text answer =
    (reading : Result ℤ Refusal) × ReadsBy kind way text reading
    × (answer ≡ reading_text reading)

-- the text of a number that is written, or of its refusal
abbrev pub printing_text : Result (List ℕ) Refusal → List ℕ
printing_text (Ok characters) = codes "ok " ++ encode_utf8_all characters
printing_text (Err refusal) = codes "err " ++ refusal_text refusal

-- `answer` is the answer to a number that is written; a number that its type does not hold is a bad
-- line
abbrev pub AnswersPrinting :
    Kind → Way → ChineseVariant → ChineseCase → ℤ → List ℕ → Type 0
AnswersPrinting kind way variant case number answer =
    answer ≡ (if holds kind number then printing_text (written_by way variant case number)
    else bad_line)

-- `answer` is the answer to a question
abbrev pub AnswersQuestion : Question → List ℕ → Type 0
AnswersQuestion (read integer way text) answer = AnswersRead (the_kind integer) way text answer
AnswersQuestion (print integer way variant case number) answer =
    AnswersPrinting (the_kind integer) way variant case number answer

-- `answer` is the answer to a question, or `bad line` if there is none
abbrev pub AnswersAny : Option Question → List ℕ → Type 0
AnswersAny None answer = answer ≡ bad_line
AnswersAny (Some question) answer = AnswersQuestion question answer

-- `answer` is the answer to a line
unfoldable pub Answers : List ℕ → List ℕ → Type 0
Answers line answer = AnswersAny (question_of line) answer

-- these bytes are the answers to these lines, each followed by a line feed
abbrev pub AreReplies : List (List ℕ) → List ℕ → Type 0
AreReplies [] bytes = bytes ≡ []
AreReplies (line ∷ lines) bytes =
    (answer : List ℕ) × (rest : List ℕ) × Answers line answer × AreReplies lines rest
    × (bytes ≡ answer ++ 10 ∷ rest)
