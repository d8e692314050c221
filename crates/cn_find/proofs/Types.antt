-- A text without a sign has the same answer for each type.
use Rattle.std.proofs.Common.{◌≡◌, ℕ, ℤ, pos, int_lt, Bool, true, false, List, chars, drop, None, Result, Ok, Err, MatchBool, if◌then◌else◌, refl, sym, ap, subst, ◌∙◌, arith}
use Rattle.std.proofs.lemmas.Int.{ints}
use Rattle.cn_core.specs.declared.method.ChineseCountMethod.{ChineseCountMethod}
use Rattle.cn_core.specs.Judge.{Judges}
use Rattle.cn_core.specs.Naive.{naive_answer}
use Rattle.cn_core.specs.Refusal.{Refusal, empty, incorrect_at, too_large, too_small}
use Rattle.cn_core.specs.Reading.{Reads, leading_sign, naive_reading, sign_len, typed_answer, typed_number}
use Rattle.cn_core.specs.Text.{text_of, marks_of}
use Rattle.cn_core.specs.Whole.{Kind, holds}
use Rattle.cn_find.specs.Number.{IsAnswer, is_plain}

-- no type reads a sign in such a text
no-sign : (signed : Bool) (text : List ℕ) → leading_sign true text ≡ None
    → leading_sign signed text ≡ None
no-sign true text h = h
no-sign false text h = refl

pub number-is : (kind : Kind) (number answer : ℤ) → Ok answer ≡ typed_number kind number
    → number ≡ answer
number-is kind number answer h = grind (arith, ints, h)

number-held : (kind : Kind) (number : ℤ) → holds kind number ≡ true
    → Ok number ≡ typed_number kind number
number-held kind number h = grind (arith, ints, h)

no-place : (kind : Kind) (number : ℤ) (place : ℕ)
    → Err (incorrect_at place) ≡ typed_number kind number → ⊥
no-place kind number place h = by (int_lt kind.greatest number) (int_lt number kind.least) h where
  by : (a b : Bool)
      → ◌≡◌ {A = Result ℤ Refusal} (Err (incorrect_at place))
      (if a then Err too_large else (if b then Err too_small else Ok number)) → ⊥
  by true b h = cc
  by false true h = cc
  by false false h = cc

-- the answer that a judgement without a sign gives to one type, it gives to another
number-moves : (here there : Kind) (bytes : List ℕ) (judged : Result ℕ Refusal) (number : ℤ)
    → Ok number ≡ typed_answer here bytes None judged → holds there number ≡ true
    → Ok number ≡ typed_answer there bytes None judged
number-moves here there bytes (Ok magnitude) number h held =
    number-held there number held
    ∙ ap (typed_number there) (sym (number-is here (pos magnitude) number h))
number-moves here there bytes (Err too_large) number h held = cc
number-moves here there bytes (Err too_small) number h held = cc
number-moves here there bytes (Err empty) number h held = cc
number-moves here there bytes (Err (incorrect_at place)) number h held = cc

place-moves : (here there : Kind) (bytes : List ℕ) (judged : Result ℕ Refusal) (place : ℕ)
    → Err (incorrect_at place) ≡ typed_answer here bytes None judged
    → Err (incorrect_at place) ≡ typed_answer there bytes None judged
place-moves here there bytes (Ok magnitude) place h = absurd (no-place here (pos magnitude) place h)
place-moves here there bytes (Err too_large) place h = cc
place-moves here there bytes (Err too_small) place h = cc
place-moves here there bytes (Err empty) place h = cc
place-moves here there bytes (Err (incorrect_at q)) place h = h

-- so an answer for one type is one for another, if that holds for each judgement
moves : (here there : Kind) (method : ChineseCountMethod) (bytes : List ℕ)
    (answer : Result ℤ Refusal) → leading_sign true (text_of bytes) ≡ None
    → ((judged : Result ℕ Refusal) → answer ≡ typed_answer here bytes None judged
    → answer ≡ typed_answer there bytes None judged)
    → IsAnswer here method bytes answer → IsAnswer there method bytes answer
moves here there method bytes answer none each given = by (is_plain (chars bytes)) given where
  at_here : leading_sign here.signed (text_of bytes) ≡ None
  at_here = no-sign here.signed (text_of bytes) none

  at_there : leading_sign there.signed (text_of bytes) ≡ None
  at_there = no-sign there.signed (text_of bytes) none

  by : (b : Bool)
      → MatchBool b (answer ≡ naive_reading here bytes) (Reads here method bytes answer)
      → MatchBool b (answer ≡ naive_reading there bytes) (Reads there method bytes answer)
  by true h =
      let same : answer ≡ typed_answer here bytes None (naive_answer (marks_of (text_of bytes))) =
      h ∙ ap (λ s. typed_answer here bytes s
      (naive_answer (marks_of (drop (sign_len s) (text_of bytes))))) at_here in
      each (naive_answer (marks_of (text_of bytes))) same
      ∙ ap (λ s. typed_answer there bytes s
      (naive_answer (marks_of (drop (sign_len s) (text_of bytes))))) (sym at_there)
  by false (judged, judges, same) = (
    judged,
    subst (λ s. Judges method (marks_of (drop (sign_len s) (text_of bytes))) judged)
        (at_here ∙ sym at_there) judges,
    each judged (same ∙ ap (λ s. typed_answer here bytes s judged) at_here)
        ∙ ap (λ s. typed_answer there bytes s judged) (sym at_there),
  )

pub same-number : (here there : Kind) (method : ChineseCountMethod) (bytes : List ℕ) (number : ℤ)
    → leading_sign true (text_of bytes) ≡ None → IsAnswer here method bytes (Ok number)
    → holds there number ≡ true → IsAnswer there method bytes (Ok number)
same-number here there method bytes number none given held =
    moves here there method bytes (Ok number) none
    (λ judged h. number-moves here there bytes judged number h held) given

pub same-place : (here there : Kind) (method : ChineseCountMethod) (bytes : List ℕ) (place : ℕ)
    → leading_sign true (text_of bytes) ≡ None
    → IsAnswer here method bytes (Err (incorrect_at place))
    → IsAnswer there method bytes (Err (incorrect_at place))
same-place here there method bytes place none given =
    moves here there method bytes (Err (incorrect_at place)) none
    (λ judged h. place-moves here there bytes judged place h) given
