-- The answer to a text without sign, in which places are reported as a char_index of the caller's
-- string.
use Rattle.std.specs.Prelude.{◌≡◌, ℕ, zero, suc, ◌+◌, List, Result, Err}
use Rattle.cn_core.specs.declared.method.ChineseCountMethod.{ChineseCountMethod}
use Rattle.cn_core.specs.Judge.{Judges}
use Rattle.cn_core.specs.Refusal.{Refusal, incorrect_at}
use Rattle.cn_core.specs.CharIndex.{char_index_of}
use Rattle.cn_core.specs.Text.{text_of, marks_of}
use Rattle.cn_judge.specs.Piece.{answer_at}

-- the answer to a text, given the char_index of its first character, the bytes after that
-- character, and the answer with places
abbrev pub after_first : ℕ → List ℕ → Result ℕ Refusal → Result ℕ Refusal
after_first char_index rest (Err (incorrect_at zero)) = Err (incorrect_at char_index)
after_first char_index rest (Err (incorrect_at (suc place))) =
    Err (incorrect_at (char_index + 1 + char_index_of rest place))
after_first char_index rest answer = answer

-- `answer` is the judgement of a piece of a string that has `skipped` characters before it
abbrev pub JudgesAt : ChineseCountMethod → ℕ → List ℕ → Result ℕ Refusal → Type 0
JudgesAt method skipped bytes answer =
    (judged : Result ℕ Refusal) × Judges method (marks_of (text_of bytes)) judged
    × (answer ≡ answer_at skipped bytes judged)
