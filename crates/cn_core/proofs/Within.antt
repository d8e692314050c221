-- A refusal points into the text: its place is the index of one of the marks.
use Rattle.std.proofs.Common.{◌≡◌, ℕ, suc, ◌+◌, ◌-◌, ◌^◌, ◌<◌, ◌≤◌, Bool, true, false, nat_le, List, [], ◌∷◌, length, take, reverse, Option, Some, None, Result, Ok, Err, refl, ap, ◌∙◌, arith, length-take, if◌then◌else◌}
use Rattle.std.specs.Option.{option_or}
use Rattle.cn_core.specs.declared.method.ChineseCountMethod.{ChineseCountMethod}
use Rattle.cn_core.specs.Judge.{Judges, numeral_answer, last_mark_answer}
use Rattle.cn_core.specs.Judging.{judge, judge_body, place_of}
use Rattle.cn_core.specs.Mark.{Mark, digit, unit, other}
use Rattle.cn_core.specs.Naive.{naive_answer, first_fault, refused_or, decimal_value}
use Rattle.cn_core.specs.Numeral.{each_may_precede, is_numeral}
use Rattle.cn_core.specs.Place.{body, ends_apart, is_early}
use Rattle.cn_core.specs.Refusal.{Refusal, incorrect_at, too_large}
use Rattle.cn_core.proofs.Judging.{Judges-judge, Judges-same}

place-low : (marks : List Mark) → place_of marks ≤ length marks - 1
place-low [] = omega arith
place-low (mark ∷ []) = omega arith
place-low (mark ∷ next ∷ rest) = by (each_may_precede (next ∷ rest)) (place-low (next ∷ rest)) where
  by : (b : Bool) → place_of (next ∷ rest) ≤ length (next ∷ rest) - 1
      → (if b then 0 else suc (place_of (next ∷ rest))) ≤ length (mark ∷ next ∷ rest) - 1
  by true ih = omega arith
  by false ih = omega (arith, ih)

body-length : (marks : List Mark) → length (body marks) ≤ length marks
body-length marks = by (ends_apart (reverse marks)) where
  by : (b : Bool) → length (if b then take (length marks - 1) marks else marks) ≤ length marks
  by true = omega (arith, length-take (length marks - 1) marks)
  by false = omega arith

abbrev Answer : Type 0
Answer = Result ℕ Refusal

at-place : (early : Bool) (found place : ℕ) (answer : Answer)
    → answer ≡ (if early then Err too_large else Err (incorrect_at found))
    → answer ≡ Err (incorrect_at place) → found ≡ place
at-place true found place answer e h = cc
at-place false found place answer e h = cc

numeral-ok : (b : Bool) (number place : ℕ) (answer : Answer)
    → answer ≡ (if b then Ok number else Err too_large) → answer ≡ Err (incorrect_at place) → ⊥
numeral-ok true number place answer e h = cc
numeral-ok false number place answer e h = cc

last-place : (b : Bool) (last place : ℕ) (answer : Answer)
    → answer ≡ (if b then Err (incorrect_at last) else Err too_large)
    → answer ≡ Err (incorrect_at place) → last ≡ place
last-place true last place answer e h = cc
last-place false last place answer e h = cc

-- the place that `judge` computes is one of the marks
pub judge-within : (method : ChineseCountMethod) (marks : List Mark) (place : ℕ)
    → judge method marks ≡ Err (incorrect_at place) → place < length marks
judge-within method [] place h = cc
judge-within method (mark ∷ rest) place h =
    by (is_numeral (mark ∷ rest)) (is_numeral (body (mark ∷ rest))) h where
      by : (a b : Bool)
          → (if a then numeral_answer method (mark ∷ rest)
          else (if b then last_mark_answer method (mark ∷ rest)
          else judge_body method (body (mark ∷ rest)))) ≡ Err (incorrect_at place)
          → place < suc (length rest)
      by true b h = absurd (numeral-ok _ _ place _ refl h)
      by false true h = let e = last-place _ _ place _ refl h in omega (arith, e)
      by false false h =
          let e = at-place (is_early method (body (mark ∷ rest)) (place_of (body (mark ∷ rest))))
          (place_of (body (mark ∷ rest))) place _ refl h in
          omega (arith, e, place-low (body (mark ∷ rest)), body-length (mark ∷ rest))

-- so the place of a judgement is one of the marks
pub Judges-within : (method : ChineseCountMethod) (marks : List Mark) (place : ℕ)
    → Judges method marks (Err (incorrect_at place)) → place < length marks
Judges-within method marks place h =
    judge-within method marks place
    (Judges-same method marks (judge method marks) (Err (incorrect_at place))
    (Judges-judge method marks) h)

-- the same for plain digits
fault-within : (marks : List Mark) (start : ℕ) (rest : List Mark) (place : ℕ)
    → first_fault marks start rest ≡ Some (incorrect_at place) → place < start + length rest
fault-within marks start [] place h = cc
fault-within marks start (digit value ∷ rest) place h =
    by (nat_le (2 ^ 128) (decimal_value (take (start + 1) marks))) (fault-within marks (start + 1)
    rest place) h where
      by : (b : Bool) → (first_fault marks (start + 1) rest ≡ Some (incorrect_at place)
          → place < start + 1 + length rest)
          → option_or (if b then Some too_large else None) (first_fault marks (start + 1) rest)
          ≡ Some (incorrect_at place) → place < start + length (digit value ∷ rest)
      by true ih h = cc
      by false ih h = let low = ih h in omega (arith, low)
fault-within marks start (unit rank ∷ rest) place h =
    let e : start ≡ place = cc in omega (arith, e)
fault-within marks start (other ∷ rest) place h = let e : start ≡ place = cc in omega (arith, e)

pub naive-within : (marks : List Mark) (place : ℕ) → naive_answer marks ≡ Err (incorrect_at place)
    → place < length marks
naive-within [] place h = cc
naive-within (mark ∷ rest) place h = by (first_fault (mark ∷ rest) 0 (mark ∷ rest)) refl h where
  by : (f : Option Refusal) → first_fault (mark ∷ rest) 0 (mark ∷ rest) ≡ f
      → refused_or f (decimal_value (mark ∷ rest)) ≡ Err (incorrect_at place)
      → place < length (mark ∷ rest)
  by None e h = cc
  by (Some refusal) e h =
      let is : refusal ≡ incorrect_at place = cc in
      let l = fault-within (mark ∷ rest) 0 (mark ∷ rest) place (e ∙ ap Some is) in omega (arith, l)
