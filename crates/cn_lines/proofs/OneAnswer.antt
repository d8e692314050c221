-- A line has exactly one answer, and an input has exactly one output.
use Rattle.std.proofs.Common.{◌≡◌, ◌++◌, ℕ, ℤ, Option, Some, None, Result, List, [], ◌∷◌, refl, sym, ap, ◌∙◌}
use Rattle.chinese_number.specs.Refusal.{Refusal}
use Rattle.chinese_number.specs.Reading.{naive_reading}
use Rattle.chinese_number.specs.Whole.{Kind}
use Rattle.chinese_number.proofs.Reading.{the_answer, Reads-same, Reads-the_answer}
use Rattle.cn_dynamic.specs.IntegerTypes.{the_kind}
use Rattle.cn_dynamic.specs.Ways.{ReadsBy}
use Rattle.cn_dynamic.specs.declared.Way.{Way}
use Rattle.cn_dynamic.specs.declared.Way.TheVariants.{Digits, Units}
use Rattle.cn_lines.specs.Question.{Question, read, print, question_of}
use Rattle.cn_lines.specs.Answer.{reading_text, Answers, AnswersAny, AreReplies}

-- at most one list has this property
abbrev IsSingle : (List ℕ → Type 0) → Type 0
IsSingle P = (a b : List ℕ) → P a → P b → a ≡ b

single : (value : List ℕ) → IsSingle (λ list. list ≡ value)
single value a b p q = p ∙ sym q

single_reading : (kind : Kind) (way : Way) (text : List ℕ) (a b : Result ℤ Refusal)
    → ReadsBy kind way text a → ReadsBy kind way text b → a ≡ b
single_reading kind Digits text a b p q = p ∙ sym q
single_reading kind (Units method) text a b p q = Reads-same kind method text a b p q

single_to_question : (question : Option Question) → IsSingle (AnswersAny question)
single_to_question None = single _
single_to_question (Some (read integer way text)) =
    λ a b (x, is_x, a_is) (y, is_y, b_is). a_is
    ∙ ap reading_text (single_reading (the_kind integer) way text x y is_x is_y) ∙ sym b_is
single_to_question (Some (print integer way variant case number)) = single _

pub single_answer : (line : List ℕ) → IsSingle (Answers line)
unfolding Answers
single_answer line = single_to_question (question_of line)

pub single_output : (lines : List (List ℕ)) → IsSingle (AreReplies lines)
single_output [] a b p q = p ∙ sym q
single_output (line ∷ lines) a b p q =
    p.4 ∙ ap (λ answer. answer ++ 10 ∷ p.1) (single_answer line p.0 q.0 p.2 q.2)
    ∙ ap (λ rest. q.0 ++ 10 ∷ rest) (single_output lines p.1 q.1 p.3 q.3) ∙ sym q.4

-- each line has an answer
some_to_question : (question : Option Question)
    → (answer : List ℕ) × AnswersAny question answer
some_to_question None = (_, refl)
some_to_question (Some (read integer Digits text)) =
    (_, (naive_reading (the_kind integer) text, refl, refl))
some_to_question (Some (read integer (Units method) text)) =
    let kind = the_kind integer in
    (_, (the_answer kind method text, Reads-the_answer kind method text, refl))
some_to_question (Some (print integer way variant case number)) = (_, refl)

pub some_answer : (line : List ℕ) → (answer : List ℕ) × Answers line answer
unfolding Answers
some_answer line = some_to_question (question_of line)

pub some_replies : (lines : List (List ℕ)) → (bytes : List ℕ) × AreReplies lines bytes
some_replies [] = ([], refl)
some_replies (line ∷ lines) =
    let first = some_answer line in
    let others = some_replies lines in
    (first.0 ++ 10 ∷ others.0, (first.0, others.0, first.1, others.1, refl))
