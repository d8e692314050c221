-- The answer at the first mark, and the answer to a text with a tail.
use Rattle.std.proofs.Common.{◌≡◌, ◌≢◌, inl, inr, ℕ, ◌+◌, ◌-◌, ◌^◌, ◌<◌, Bool, true, false, not, ◌||◌, ◌==◌, nat_lt, List, [], ◌∷◌, ◌++◌, length, Option, Some, None, Result, Ok, Err, refl, sym, ap, ◌∙◌, arith, if◌then◌else◌, append_assoc, length-append}
use Rattle.std.proofs.lemmas.Bool.Decides.{nat_tests}
use Rattle.cn_core.specs.declared.method.ChineseCountMethod.{ChineseCountMethod}
use Rattle.cn_core.specs.Mark.{Mark, digit, unit, other, mark_of}
use Rattle.cn_core.specs.Numeral.{each_may_precede, is_numeral, with_first_digit, starts_with_digit}
use Rattle.cn_core.specs.Place.{some_unfit, is_tail, is_unfit}
use Rattle.cn_core.specs.Refusal.{Refusal, incorrect_at}
use Rattle.cn_core.specs.Scale.{scale_fits}
use Rattle.cn_core.specs.Text.{marks_of}
use Rattle.cn_core.specs.Value.{value}
use Rattle.cn_judge.specs.declared.mark.Mark.{Mark as ReadMark}
use Rattle.cn_judge.specs.Private.Walk.{opens_of, faults, number_answer, front_answer, fault_or, walked_answer, tail_answer, HasTail, HasNoTail}
use Rattle.cn_judge.specs.Private.Stack.{StackEntry, total_sum}
use Rattle.cn_judge.specs.Private.Walked.{IsWalked}
use Rattle.cn_judge.proofs.OpenSums.{total-value}
use Rattle.cn_judge.proofs.Faults.{plain, plain-walked}
use Rattle.cn_judge.proofs.Steps.{or-right, sound-none}
use Rattle.cn_judge.proofs.Tails.{judge-one, judge-two, judge-plain, judge-tail}
use Rattle.cn_judge.proofs.WalkSteps.{digit-low}
use Rattle.cn_core.specs.Judge.{Judges}
use Rattle.cn_core.specs.Judging.{judge}
use Rattle.std.specs.Result.{IsErr, IsErrAnd}
use Rattle.std.specs.Option.{SomeIff, ok_or}
use Rattle.std.proofs.lemmas.List.{length-map, map-append}
use Rattle.cn_judge.specs.Judged.{after_first}
use Rattle.cn_judge.specs.Answer.{answer_of, refusal_of}
use Rattle.cn_judge.specs.declared.error.ChineseToNumberError.{ChineseToNumberError}
use Rattle.cn_judge.specs.declared.error.ChineseToNumberError.TheVariants.{Overflow}
use Rattle.cn_core.proofs.Judging.{Judges-by_walk}

pub first-stops : (c value : ℕ) → digit value ≡ mark_of c → (at_digit : Bool)
    → false ≡ (value == 0 || not at_digit)
    → (marks : List Mark) → each_may_precede marks ≡ true → at_digit ≡ starts_with_digit marks
    → is_numeral (mark_of c ∷ marks) ≡ false
first-stops c value is at_digit h marks each starts =
    let parts = both (value == 0) at_digit h in
    ap (λ m. is_numeral (m ∷ marks)) (sym is) ∙ by parts.0 marks (sym starts ∙ parts.1) where
      both : (a b : Bool) → false ≡ (a || not b) → (a ≡ false) × (b ≡ true)
      both true b h = cc
      both false true h = (refl, refl)
      both false false h = cc

      by : (value == 0) ≡ false → (marks : List Mark) → starts_with_digit marks ≡ true
          → is_numeral (digit value ∷ marks) ≡ false
      by a [] h = cc
      by a (unit n ∷ rest) h = cc
      by a (other ∷ rest) h = cc
      by a (digit n ∷ rest) h =
          let low = digit-low c value is in
          let b : nat_lt 9 value ≡ false = grind (arith, nat_tests) in
          rw (a, b)

pub walked-each : (method : ChineseCountMethod) (walked : List ℕ) (sum : ℕ)
    (units : List StackEntry) (next : Option ReadMark) → IsWalked method walked sum units next
    → each_may_precede (marks_of walked) ≡ true
walked-each method walked sum units next w = (sound-none method (marks_of walked) w.sound).each

pub front-fits : (method : ChineseCountMethod) (first : Mark) (walked : List ℕ) (sum : ℕ)
    (units : List StackEntry) (next : Option ReadMark) (d : ℕ)
    → IsWalked method walked sum units next
    → (is_numeral (first ∷ marks_of walked) ≡ true)
    × (with_first_digit (first ∷ marks_of walked) ≡ digit d ∷ marks_of walked)
    → walked_answer method first (marks_of walked) ≡ number_answer (total_sum (sum + d) units)
front-fits method first walked sum units next d w numeral =
    ap (λ f. fault_or f (front_answer method first (marks_of walked))) w.sound
    ∙ ap (λ (b : Bool). if b then number_answer (value method
    (with_first_digit (first ∷ marks_of walked))) else Err (incorrect_at 0)) numeral.0
    ∙ ap (λ l. number_answer (value method l)) numeral.1
    ∙ ap number_answer (sym (total-value method (digit d ∷ marks_of walked)))
    ∙ ap (λ s. number_answer (total_sum (s + d) (opens_of method (marks_of walked)))) (sym w.sum_is)
    ∙ ap (λ o. number_answer (total_sum (sum + d) o)) (sym w.units_are)

-- a sum that is computed if it fits
pub number_answer-ok_or : (char_index sum : ℕ) (rest : List ℕ) (found : Option ℕ)
    → SomeIff found (sum < 2 ^ 128) sum
    → answer_of (λ n. n) (ok_or found Overflow) ≡ after_first char_index rest (number_answer sum)
number_answer-ok_or char_index sum rest (Some number) h = let test : nat_lt sum (2 ^ 128) ≡ true =
    grind (arith, nat_tests, h.0) in rw test (ap Ok h.1)
number_answer-ok_or char_index sum rest None h = let test : nat_lt sum (2 ^ 128) ≡ false =
    grind (arith, nat_tests) in rw test refl

-- marks without a tail are read without one
pub judge-plain_end : (method : ChineseCountMethod) (first : Mark) (marks : List Mark)
    → HasNoTail marks → judge method (first ∷ marks) ≡ plain method (first ∷ marks)
judge-plain_end method first [] (inl h) = judge-one method first
judge-plain_end method first (m ∷ []) (inl h) = judge-two method first m
judge-plain_end method first (m ∷ n ∷ marks) (inl h) = absurd (omega (arith, h))
judge-plain_end method first marks (inr (front, second, last, parts, stands)) =
    ap (λ l. judge method (first ∷ l)) parts ∙ judge-plain method first front second last stands
    ∙ ap (λ l. plain method (first ∷ l)) (sym parts)

-- so the judgement of marks without a tail is `walked_answer`
pub judge-no_tail : (method : ChineseCountMethod) (first : Mark) (marks : List Mark)
    → HasNoTail marks → judge method (first ∷ marks) ≡ walked_answer method first marks
judge-no_tail method first marks h =
    judge-plain_end method first marks h ∙ plain-walked method first marks

-- the judgement of marks with a tail
pub judge-has_tail : (method : ChineseCountMethod) (first : Mark) (marks before : List Mark)
    (rank : ℕ) (last : Mark) (place : ℕ) → HasTail marks before rank last
    → place ≡ length before + 1 → judge method (first ∷ marks)
    ≡ tail_answer method place rank last (walked_answer method first before)
judge-has_tail method first marks before rank last place (parts, (front, is), stands) at =
    let all : marks ≡ front ++ unit rank ∷ last ∷ [] =
    parts ∙ ap (λ l. l ++ last ∷ []) is ∙ append_assoc front (unit rank ∷ []) (last ∷ []) in
    let a = ap length all in
    let b = ap length is in
    let e : length (front ++ unit rank ∷ []) ≡ length front + 1 =
    length-append front (unit rank ∷ []) in
    let f : length (front ++ unit rank ∷ last ∷ []) ≡ length front + 2 =
    length-append front (unit rank ∷ last ∷ []) in
    let there : place ≡ length (first ∷ front ++ unit rank ∷ last ∷ []) - 1 =
    omega (arith, at, b, e, f) in
    ap (λ l. judge method (first ∷ l)) all
    ∙ judge-tail method first front rank last place stands there
    ∙ ap (tail_answer method place rank last) (plain-walked method first (front ++ unit rank ∷ []))
    ∙ ap (λ l. tail_answer method place rank last (walked_answer method first l)) (sym is)

-- the scale of the unit before the tail fits, if the body has no scale that does not
unfit-end : (method : ChineseCountMethod) (front : List Mark) (rank : ℕ)
    → some_unfit method (front ++ unit rank ∷ []) ≡ false → scale_fits method rank ≡ true
unfit-end method [] rank h = by (scale_fits method rank) h where
  by : (b : Bool) → (not b || false) ≡ false → b ≡ true
  by true h = refl
  by false h = cc
unfit-end method (m ∷ front) rank h =
    unfit-end method front rank (or-right (is_unfit method m) _ h)

walked-sound : (method : ChineseCountMethod) (first : Mark) (marks : List Mark) (number : ℕ)
    → Ok number ≡ walked_answer method first marks → faults method marks ≡ None
walked-sound method first marks number h = by (faults method marks) h where
  by : (f : Option Refusal) → Ok number ≡ fault_or f (front_answer method first marks) → f ≡ None
  by None h = refl
  by (Some r) h = cc

pub tail-fits : (method : ChineseCountMethod) (first : Mark) (marks before : List Mark) (rank : ℕ)
    (last : Mark) (number : ℕ) → HasTail marks before rank last
    → Ok number ≡ walked_answer method first before → scale_fits method rank ≡ true
tail-fits method first marks before rank last number (parts, (front, is), stands) h =
    unfit-end method front rank (ap (some_unfit method) (sym is)
    ∙ (sound-none method before (walked-sound method first before number h)).fit)

-- the judgement of a text that is split into its first character and the rest
pub judged : (method : ChineseCountMethod) (text rest : List ℕ) (first : ℕ)
    (answer : Result ℕ Refusal) → text ≡ first ∷ rest
    → judge method (mark_of first ∷ marks_of rest) ≡ answer → Judges method (marks_of text) answer
judged method text rest first answer parts h =
    rw parts (Judges-by_walk method (mark_of first ∷ marks_of rest) answer h)

pub judged_plain : (method : ChineseCountMethod) (text rest : List ℕ) (first : ℕ)
    (answer : Result ℕ Refusal) → text ≡ first ∷ rest
    → HasNoTail (marks_of rest) → answer ≡ walked_answer method (mark_of first) (marks_of rest)
    → Judges method (marks_of text) answer
judged_plain method text rest first answer parts none h =
    judged method text rest first answer parts
    (judge-no_tail method (mark_of first) (marks_of rest) none ∙ sym h)

pub judged_tail : (method : ChineseCountMethod) (text rest before : List ℕ) (first : ℕ)
    (last : Mark) (rank place : ℕ) (answer body : Result ℕ Refusal) → text ≡ first ∷ rest
    → HasTail (marks_of rest) (marks_of before) rank last → place ≡ length before + 1
    → body ≡ walked_answer method (mark_of first) (marks_of before)
    → tail_answer method place rank last body ≡ answer → Judges method (marks_of text) answer
judged_tail method text rest before first last rank place answer body parts tail at is h =
    let there : place ≡ length (marks_of before) + 1 =
    (let l = length-map before mark_of in omega (arith, l, at)) in
    judged method text rest first answer parts
    (judge-has_tail method (mark_of first) (marks_of rest) (marks_of before) rank last place tail
    there
    ∙ ap (tail_answer method place rank last) (sym is) ∙ h)

-- a tail that is not a digit is at fault
pub tail-stops : (method : ChineseCountMethod) (place rank number : ℕ) (last : Mark)
    → ((value : ℕ) → last ≢ digit value)
    → tail_answer method place rank last (Ok number) ≡ Err (incorrect_at place)
tail-stops method place rank number (digit value) none = absurd (none value refl)
tail-stops method place rank number (unit u) none = refl
tail-stops method place rank number other none = refl

pub has-tail : (text before more : List ℕ) (last second rank : ℕ) (last_mark second_mark : Mark)
    → text ≡ before ++ last ∷ [] → before ≡ more ++ second ∷ []
    → last_mark ≡ mark_of last → second_mark ≡ mark_of second
    → second_mark ≡ unit rank → is_tail second_mark last_mark ≡ true
    → HasTail (marks_of text) (marks_of before) rank last_mark
has-tail text before more last second rank last_mark second_mark parts more_parts last_is second_is
    is apart = (
      ap marks_of parts ∙ map-append mark_of before (last ∷ [])
          ∙ ap (λ m. marks_of before ++ m ∷ []) (sym last_is),
      (
        marks_of more,
        ap marks_of more_parts ∙ map-append mark_of more (second ∷ [])
            ∙ ap (λ m. marks_of more ++ m ∷ []) (sym second_is ∙ is),
      ),
      ap (λ m. is_tail m last_mark) (sym is) ∙ apart,
    )

-- an error that is passed on unchanged
pub err-same : (r : Result ℕ ChineseToNumberError) (x : ChineseToNumberError)
    → IsErr r × IsErrAnd r (λ e. e ≡ x) → answer_of (λ n. n) r ≡ Err (refusal_of x)
err-same (Ok n) x h = absurd (h.1)
err-same (Err e) x h = ap (λ e. Err (refusal_of e)) h.1
