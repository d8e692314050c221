-- A run of digits that is read at once.
use Rattle.std.proofs.Common.{Bool, chars, ◌≡◌, ℕ, ◌+◌, ◌*◌, ◌^◌, ◌<◌, ◌≤◌, true, false, nat_lt, List, ◌∷◌, Err, refl, ◌∙◌, arith}
use Rattle.std.proofs.lemmas.Bool.Decides.{nat_tests}
use Rattle.cn_core.specs.Naive.{naive_answer}
use Rattle.cn_core.specs.Refusal.{too_large}
use Rattle.cn_core.specs.Text.{text_of, marks_of}
use Rattle.cn_judge.specs.Piece.{answer_at}
use Rattle.cn_judge.specs.Private.PlainPiece.{IsPiece, IsDigitRun, StartsWith, no_digit, one_more}
use Rattle.cn_judge.specs.declared.naive.Piece.{Piece}
use Rattle.cn_judge.specs.declared.naive.Piece.TheVariants.{Digits, White, Wrong}
use Rattle.cn_judge.proofs.PlainDigits.{IsReading, IsReading-digit, IsReading-great}

-- a number with one more digit
more_sum : (number weight value next : ℕ)
    → number * (weight * 10) + (value * 10 + next) ≡ (number * weight + value) * 10 + next
more_sum number weight value next = grind arith

-- the state of the reader after a run
record HasTaken (skipped : ℕ) (bytes rest : List ℕ) (char_index number : ℕ) : Type 0 where
  is_empty : Bool
  reading : IsReading skipped bytes rest char_index number is_empty

pub same_reading : (skipped : ℕ) (bytes rest : List ℕ) (index place number total : ℕ)
    (is_empty none : Bool) → IsReading skipped bytes rest index number is_empty → index ≡ place
    → number ≡ total → is_empty ≡ none → IsReading skipped bytes rest place total none
same_reading skipped bytes rest index place number total is_empty none r e f g = rw (e, f, g) at r

HasTaken-run : (skipped : ℕ) (bytes ahead rest : List ℕ) (char_index number count weight value : ℕ)
    (is_empty : Bool)
    → IsReading skipped bytes ahead char_index number is_empty
    → IsDigitRun ahead rest count weight value → number * weight + value < 2 ^ 128
    → HasTaken skipped bytes rest (char_index + count) (number * weight + value)
HasTaken-run skipped bytes ahead rest char_index number count weight value is_empty r no_digit
    small =
    record {
      is_empty = is_empty;
      reading =
          same_reading _ _ _ _ _ _ _ _ _ r (omega arith) (omega arith) refl;
    }
HasTaken-run skipped bytes ahead rest char_index number count weight value is_empty r
    (one_more between after c next before room sum run parts mark) small =
    let more = more_sum number room sum next in
    let taken = HasTaken-run skipped bytes ahead between char_index number before room sum is_empty
    r run (omega (arith, more, small)) in
    record {
      is_empty = false;
      reading = same_reading _ _ _ _ _ _ _ _ _
          (IsReading-digit _ _ _ _ _ _ c next _ _ taken.reading parts mark more
          small) (omega arith) refl refl;
    }

-- after a run of one or more digits, if the number fits
pub IsReading-run : (skipped : ℕ) (bytes ahead rest : List ℕ)
    (char_index number count weight value total : ℕ) (is_empty : Bool)
    → IsReading skipped bytes ahead char_index number is_empty
    → IsDigitRun ahead rest count weight value → 0 < count → total ≡ number * weight + value
    → total < 2 ^ 128
    → IsReading skipped bytes rest (char_index + count) total false
IsReading-run skipped bytes ahead rest char_index number count weight value total is_empty r
    no_digit some sum small = absurd (omega (arith, some))
IsReading-run skipped bytes ahead rest char_index number count weight value total is_empty r
    (one_more between after c next before room before_sum run parts mark) some sum small =
    let more = more_sum number room before_sum next in
    let taken = HasTaken-run skipped bytes ahead between char_index number before room before_sum
    is_empty r run (omega (arith, more, sum, small)) in
    same_reading _ _ _ _ _ _ _ _ _ (IsReading-digit _ _ _ _ _ _ c next total _ taken.reading parts
    mark (sum ∙ more) small) (omega arith) refl refl

-- after a run with which the number does not fit
pub IsReading-run-great : (skipped : ℕ) (bytes ahead rest : List ℕ)
    (char_index number count weight value : ℕ) (is_empty : Bool)
    → IsReading skipped bytes ahead char_index number is_empty
    → IsDigitRun ahead rest count weight value → number < 2 ^ 128 → 2 ^ 128 ≤ number * weight + value
    → answer_at skipped bytes (naive_answer (marks_of (text_of bytes))) ≡ Err too_large
IsReading-run-great skipped bytes ahead rest char_index number count weight value is_empty r
    no_digit fits great = absurd (omega (arith, fits, great))
IsReading-run-great skipped bytes ahead rest char_index number count weight value is_empty r
    (one_more between after c next before room sum run parts mark) fits great =
    by (nat_lt (number * room + sum) (2 ^ 128)) refl
    (IsReading-run-great skipped bytes ahead between char_index number before room sum is_empty
    r run fits) where
      by : (b : Bool) → nat_lt (number * room + sum) (2 ^ 128) ≡ b
          → (2 ^ 128 ≤ number * room + sum
          → answer_at skipped bytes (naive_answer (marks_of (text_of bytes))) ≡ Err too_large)
          → answer_at skipped bytes (naive_answer (marks_of (text_of bytes))) ≡ Err too_large
      by true test earlier =
          let taken = HasTaken-run skipped bytes ahead between char_index number before room sum
          is_empty r run (grind (arith, nat_tests)) in
          IsReading-great _ _ _ _ _ _ c next _ taken.reading parts mark
          (omega (arith, great, more_sum number room sum next))
      by false test earlier = earlier (grind (arith, nat_tests))

same_run : (bytes rest : List ℕ) (count weight value total : ℕ)
    → IsDigitRun bytes rest count weight value → value ≡ total → IsDigitRun bytes rest count weight total
same_run bytes rest count weight value total run e = rw e at run

-- a piece of one character
pub StartsWith-character : (piece : Piece) (bytes rest : List ℕ) (c : ℕ) → IsPiece piece c
    → chars bytes ≡ c ∷ chars rest → StartsWith piece bytes rest
StartsWith-character (Digits run) bytes rest c is parts = (
  omega (arith, is.1),
  rw (is.1, is.2) (same_run _ _ _ _ _ _
      (one_more bytes rest c run.value 0 1 0 no_digit parts is.0) (omega arith)),
)
StartsWith-character White bytes rest c is parts = (c, parts, is)
StartsWith-character Wrong bytes rest c is parts = (c, parts, is)
