-- Answers to pieces of a string, with places counted in the string.
use Rattle.std.proofs.Common.{◌≡◌, ℕ, ◌+◌, ◌<◌, List, length, chars, Result, Ok, Err, refl, sym, ap, ◌∙◌, arith}
use Rattle.std.specs.Result.{IsErr, IsErrAnd}
use Rattle.cn_core.specs.declared.method.ChineseCountMethod.{ChineseCountMethod}
use Rattle.cn_core.specs.CharIndex.{char_index_of}
use Rattle.cn_core.specs.Judging.{judge}
use Rattle.cn_core.specs.Refusal.{Refusal, empty, incorrect_at, too_large, too_small}
use Rattle.cn_core.specs.Text.{text_of, marks_of}
use Rattle.cn_core.proofs.Judging.{Judges-judge, Judges-same}
use Rattle.cn_judge.specs.Answer.{answer_of, refusal_of}
use Rattle.cn_judge.specs.declared.error.ChineseToNumberError.{ChineseToNumberError}
use Rattle.cn_judge.specs.Judged.{JudgesAt}
use Rattle.cn_judge.specs.Piece.{StandsAt, answer_at}
use Rattle.cn_judge.proofs.Judgements.{char_index-prefix}
use Rattle.cn_judge.proofs.Pieces.{char_index-rest}
use Rattle.cn_quantity.specs.Answer.{and_then, further_by}
use Rattle.cn_quantity.specs.Private.{IsFront}

-- an answer to a prefix of the string
pub told-front : {T : Type 0} (skipped : ℕ) (bytes front : List ℕ) (answer : Result T Refusal)
    → IsFront bytes front
    → ((place : ℕ) → answer ≡ Err (incorrect_at place) → place < length (text_of front))
    → answer_at skipped front answer ≡ answer_at skipped bytes answer
told-front skipped bytes front (Ok value) f low = refl
told-front skipped bytes front (Err empty) f low = refl
told-front skipped bytes front (Err too_large) f low = refl
told-front skipped bytes front (Err too_small) f low = refl
told-front skipped bytes front (Err (incorrect_at place)) f low =
    let same : char_index_of bytes place ≡ char_index_of front place =
    rw f.parts (char_index-prefix (chars front) f.more place (low place refl)) in
    ap (λ n. Err (incorrect_at (skipped + n))) (sym same)

-- an answer to a suffix of the string
pub told-end : {T : Type 0} (skipped : ℕ) (bytes rest : List ℕ) (index place : ℕ)
    (answer : Result T Refusal) → StandsAt bytes (chars rest) index place
    → answer_at (skipped + index) rest answer ≡ answer_at skipped bytes (further_by place answer)
told-end skipped bytes rest index place (Ok value) at = refl
told-end skipped bytes rest index place (Err empty) at = refl
told-end skipped bytes rest index place (Err too_large) at = refl
told-end skipped bytes rest index place (Err too_small) at = refl
told-end skipped bytes rest index place (Err (incorrect_at p)) at =
    let there : char_index_of bytes (p + place) ≡ index + char_index_of rest p =
    char_index-rest bytes rest index place p at in
    let sum : skipped + index + char_index_of rest p ≡ skipped + char_index_of bytes (p + place) =
    omega (arith, there) in
    ap (λ n. Err (incorrect_at n)) sum

-- the judgement of a piece, by the function that computes it
pub told-judged : (method : ChineseCountMethod) (skipped : ℕ) (bytes : List ℕ)
    (answer : Result ℕ Refusal) → JudgesAt method skipped bytes answer
    → answer ≡ answer_at skipped bytes (judge method (marks_of (text_of bytes)))
told-judged method skipped bytes answer (judged, judges, is) =
    is ∙ ap (answer_at skipped bytes) (Judges-same method (marks_of (text_of bytes)) judged
    (judge method (marks_of (text_of bytes))) judges
    (Judges-judge method (marks_of (text_of bytes))))

-- one answer after another
pub told-stops : {T N : Type 0} (skipped : ℕ) (bytes : List ℕ) (first : Result T Refusal)
    (next : T → Result N Refusal) (refusal : Refusal) → Err refusal ≡ answer_at skipped bytes first
    → Err refusal ≡ answer_at skipped bytes (and_then first next)
told-stops skipped bytes (Ok value) next refusal h = cc
told-stops skipped bytes (Err empty) next refusal h = let r : refusal ≡ empty = cc in ap Err r
told-stops skipped bytes (Err too_large) next refusal h =
    let r : refusal ≡ too_large = cc in ap Err r
told-stops skipped bytes (Err too_small) next refusal h =
    let r : refusal ≡ too_small = cc in ap Err r
told-stops skipped bytes (Err (incorrect_at place)) next refusal h =
    let r : refusal ≡ incorrect_at (skipped + char_index_of bytes place) = cc in ap Err r

pub told-goes_on : {T N : Type 0} (skipped : ℕ) (bytes : List ℕ) (first : Result T Refusal)
    (next : T → Result N Refusal) (value : T) → Ok value ≡ answer_at skipped bytes first
    → and_then first next ≡ next value
told-goes_on skipped bytes (Ok v) next value h = let e : v ≡ value = cc in ap next e
told-goes_on skipped bytes (Err empty) next value h = cc
told-goes_on skipped bytes (Err too_large) next value h = cc
told-goes_on skipped bytes (Err too_small) next value h = cc
told-goes_on skipped bytes (Err (incorrect_at place)) next value h = cc

-- a `?` returns a refusal unchanged
pub err-told : {T N : Type 0} (f : T → N) (r : Result T ChineseToNumberError)
    (x : ChineseToNumberError) → IsErr r × IsErrAnd r (λ e. e ≡ x)
    → answer_of f r ≡ Err (refusal_of x)
err-told f (Ok n) x h = absurd (h.1)
err-told f (Err e) x h = ap (λ e. Err (refusal_of e)) h.1
