-- The fault that a walk from the right finds first is the one that the place and the early overflow
-- define.
use Rattle.std.proofs.Common.{◌≡◌, ℕ, suc, ◌+◌, ◌^◌, ◌<◌, ◌≤◌, max, Bool, true, false, not, ◌&&◌, ◌||◌, nat_le, nat_lt, ◌==◌, List, [], ◌∷◌, drop, take_while, Option, Some, None, Result, Ok, Err, refl, sym, ap, ◌∙◌, arith, if◌then◌else◌}
use Rattle.std.proofs.lemmas.Bool.Decides.{nat_tests}
use Rattle.cn_core.specs.declared.method.ChineseCountMethod.{ChineseCountMethod}
use Rattle.cn_core.specs.declared.method.ChineseCountMethod.TheVariants.{Low, TenThousand, Middle, High}
use Rattle.cn_core.specs.Mark.{Mark, digit, unit, other}
use Rattle.cn_core.specs.Numeral.{is_numeral, with_first_digit, may_precede, each_may_precede}
use Rattle.cn_core.specs.Place.{is_below, is_unfit, is_overflowing, some_unfit, some_overflowing, is_early}
use Rattle.cn_core.specs.Refusal.{Refusal, incorrect_at, too_large}
use Rattle.cn_core.specs.Scale.{scale_fits}
use Rattle.cn_core.specs.Value.{value}
use Rattle.cn_core.specs.Judging.{place_of, judge_body}
use Rattle.cn_core.proofs.Fronts.{each-from_completable}
use Rattle.cn_judge.specs.Private.Walk.{number_answer, front_answer, fault_or, walked_answer, fault_of, further_or, faults}
use Rattle.cn_judge.proofs.OpenSums.{take_while-group, group-value}

-- an early overflow, with the group at the list's own place counted even if that is the first
abbrev pub is_early_at : ChineseCountMethod → List Mark → ℕ → Bool
is_early_at method marks place = some_unfit method (drop (suc place) marks)
    || some_overflowing method (drop place marks)

abbrev pub faults_by : Bool → Bool → Bool → ℕ → Option Refusal
faults_by each over early place =
    if each then (if over then Some too_large else None)
    else (if early then Some too_large else Some (incorrect_at place))

abbrev pub faults_at : ChineseCountMethod → List Mark → Option Refusal
faults_at method marks =
    faults_by (each_may_precede marks) (some_unfit method marks || some_overflowing method marks)
    (is_early_at method marks (place_of marks)) (place_of marks)

step_true : (u o m n v : Bool)
    → further_or (if u || o then Some too_large else None)
    (if v then Some too_large else (if m then (if n then Some too_large else None)
    else Some (incorrect_at 0)))
    ≡ (if m && true then (if (n || u) || (v || o) then Some too_large else None)
    else (if u || (v || o) then Some too_large else Some (incorrect_at 0)))
step_true true true true true true = refl
step_true true true true true false = refl
step_true true true true false true = refl
step_true true true true false false = refl
step_true true true false true true = refl
step_true true true false true false = refl
step_true true true false false true = refl
step_true true true false false false = refl
step_true true false true true true = refl
step_true true false true true false = refl
step_true true false true false true = refl
step_true true false true false false = refl
step_true true false false true true = refl
step_true true false false true false = refl
step_true true false false false true = refl
step_true true false false false false = refl
step_true false true true true true = refl
step_true false true true true false = refl
step_true false true true false true = refl
step_true false true true false false = refl
step_true false true false true true = refl
step_true false true false true false = refl
step_true false true false false true = refl
step_true false true false false false = refl
step_true false false true true true = refl
step_true false false true true false = refl
step_true false false true false true = refl
step_true false false true false false = refl
step_true false false false true true = refl
step_true false false false true false = refl
step_true false false false false true = refl
step_true false false false false false = refl

step_false : (early m x : Bool) (fault : Option Refusal) (place : ℕ)
    → further_or (if early then Some too_large else Some (incorrect_at place)) fault
    ≡ (if m && false then (if x then Some too_large else None)
    else (if early then Some too_large else Some (incorrect_at (suc place))))
step_false true true x fault place = refl
step_false true false x fault place = refl
step_false false true x fault place = refl
step_false false false x fault place = refl

faults_step : (method : ChineseCountMethod) (mark : Mark) (rest : List Mark) (each : Bool)
    → each_may_precede rest ≡ each
    → faults method rest ≡ faults_by each (some_unfit method rest || some_overflowing method rest)
    (is_early_at method rest (place_of rest)) (place_of rest)
    → further_or (faults method rest) (fault_of method mark rest)
    ≡ faults_by (may_precede mark rest && each)
    ((is_unfit method mark || some_unfit method rest)
    || (is_overflowing method mark rest || some_overflowing method rest))
    (is_early_at method (mark ∷ rest) (if each then 0 else suc (place_of rest))) (if each then 0
    else suc (place_of rest))
faults_step method mark rest true e ih =
    ap (λ f. further_or f (fault_of method mark rest)) ih
    ∙ step_true (some_unfit method rest) (some_overflowing method rest) (may_precede mark rest)
    (is_unfit method mark) (is_overflowing method mark rest)
faults_step method mark rest false e ih =
    ap (λ f. further_or f (fault_of method mark rest)) ih
    ∙ step_false (is_early_at method rest (place_of rest)) (may_precede mark rest) _
    (fault_of method mark rest) (place_of rest)

-- the walk's fault is at the place, unless an overflow comes first
pub faults-at : (method : ChineseCountMethod) (marks : List Mark)
    → faults method marks ≡ faults_at method marks
faults-at method [] = refl
faults-at method (mark ∷ rest) = faults_step method mark rest (each_may_precede rest) refl
    (faults-at method rest)

-- a list that overflows early is too large as a whole
value_more : (method : ChineseCountMethod) (mark : Mark) (rest : List Mark)
    → value method rest ≤ value method (mark ∷ rest)
value_more method (digit number) rest = omega arith
value_more method (unit rank) rest = omega arith
value_more method other rest = omega arith

overflow_here : (method : ChineseCountMethod) (mark : Mark) (rest : List Mark)
    → is_overflowing method mark rest ≡ true → 2 ^ 128 ≤ value method rest
overflow_here method (digit number) rest h = cc
overflow_here method other rest h = cc
overflow_here method (unit rank) [] h = cc
overflow_here method (unit rank) (unit next ∷ rest) h = cc
overflow_here method (unit rank) (other ∷ rest) h = cc
overflow_here method (unit rank) (digit number ∷ rest) h =
    great (value method (take_while (is_below rank) (digit number ∷ rest)))
    (value method (digit number ∷ rest)) h
    (ap (value method) (take_while-group rank (digit number ∷ rest))) (group-value method rank
    (digit number ∷ rest)) where
      great : (a b : ℕ) {c : ℕ} → nat_le (2 ^ 128) a ≡ true → a ≡ c → c ≤ b → 2 ^ 128 ≤ b
      great a b t e le = let l : 2 ^ 128 ≤ a = grind (arith, nat_tests) in omega (arith, l, e, le)

pub or_cases : (G : Type 0) (a b : Bool) → (a || b) ≡ true → (a ≡ true → G) → (b ≡ true → G) → G
or_cases G true b h f g = f refl
or_cases G false b h f g = g h

pub overflow-value : (method : ChineseCountMethod) (marks : List Mark)
    → some_overflowing method marks ≡ true → 2 ^ 128 ≤ value method marks
overflow-value method [] h = cc
overflow-value method (mark ∷ rest) h =
    let more = value_more method mark rest in
    or_cases (2 ^ 128 ≤ value method (mark ∷ rest)) (is_overflowing method mark rest)
    (some_overflowing method rest) h
    (λ here. let l = overflow_here method mark rest here
    in omega (arith, l, more)) (λ later. let l =
    overflow-value method rest later in omega (arith, l, more))

pub opened_value : (method : ChineseCountMethod) (mark : Mark) (rest : List Mark)
    → value method rest ≤ value method (with_first_digit (mark ∷ rest))
opened_value method (digit number) rest = value_more method (digit number) rest
opened_value method other rest = omega arith
opened_value method (unit rank) rest =
    value_more method (if rank == 1 then digit 10 else unit rank) rest

abbrev pub plain : ChineseCountMethod → List Mark → Result ℕ Refusal
plain method marks =
    if is_numeral marks then (if not (some_unfit method marks)
    && nat_lt (value method (with_first_digit marks)) (2 ^ 128)
    then Ok (value method (with_first_digit marks)) else Err too_large)
    else judge_body method marks

-- a numeral that fits
pub plain-numeral : (method : ChineseCountMethod) (marks : List Mark) (number : ℕ)
    → is_numeral marks ≡ true → some_unfit method marks ≡ false
    → value method (with_first_digit marks) ≡ number → number < 2 ^ 128
    → plain method marks ≡ Ok number
plain-numeral method marks number numeral fit same fits =
    let test : nat_lt number (2 ^ 128) ≡ true =
    grind (arith, nat_tests) in rw (numeral, fit, same, test)

pub numeral_tail : (mark : Mark) (rest : List Mark) → is_numeral (mark ∷ rest) ≡ true
    → each_may_precede rest ≡ true
numeral_tail mark rest h = each-from_completable rest (mark ∷ [], omega arith, h)

ten_fits : (method : ChineseCountMethod) → scale_fits method 1 ≡ true
ten_fits Low = refl
ten_fits TenThousand = refl
ten_fits Middle = refl
ten_fits High = refl

-- the scale of a numeral's first mark fits
pub numeral_fits : (method : ChineseCountMethod) (mark : Mark) (rest : List Mark)
    → is_numeral (mark ∷ rest) ≡ true → is_unfit method mark ≡ false
numeral_fits method (digit number) rest h = refl
numeral_fits method other rest h = cc
numeral_fits method (unit rank) rest h = by (rank == 1) refl h where
  by : (b : Bool) → (rank == 1) ≡ b → is_numeral (unit rank ∷ rest) ≡ true
      → is_unfit method (unit rank) ≡ false
  by true e h = let one : rank ≡ 1 = grind (arith, nat_tests) in rw one (ap not (ten_fits method))
  by false e h = absurd (let h2 = rw e at h in cc)

early_suc : (method : ChineseCountMethod) (mark : Mark) (rest : List Mark) (place : ℕ)
    → is_early method (mark ∷ rest) (suc place) ≡ is_early_at method rest place
early_suc method mark rest place =
    let a : suc place + 1 ≡ suc (suc place) = omega arith in
    let b : max (suc place) 1 ≡ suc place = omega arith in
    ap (λ n. some_unfit method (drop n (mark ∷ rest))
    || some_overflowing method (drop (max (suc place) 1) (mark ∷ rest))) a
    ∙ ap (λ n. some_unfit method (drop (suc place) rest)
    || some_overflowing method (drop n (mark ∷ rest))) b

numeral_cases : (u o n : Bool) (number : ℕ) → n ≡ false → (o ≡ true → 2 ^ 128 ≤ number)
    → (if not (n || u) && nat_lt number (2 ^ 128) then Ok number else Err too_large)
    ≡ fault_or (if u || o then Some too_large else None) (number_answer number)
numeral_cases true o true number h great = cc
numeral_cases false o true number h great = cc
numeral_cases true o false number h great = refl
numeral_cases false false false number h great = refl
numeral_cases false true false number h great = let l =
    great refl in let t : nat_lt number (2 ^ 128) ≡ false = grind (arith, nat_tests) in rw t

refused_cases : (over : Bool) (answer : Result ℕ Refusal) → answer ≡ Err (incorrect_at 0)
    → (if over then Err too_large else Err (incorrect_at 0))
    ≡ fault_or (if over then Some too_large else None) answer
refused_cases true answer h = refl
refused_cases false answer h = sym h

placed_cases : (early : Bool) (place : ℕ) (answer : Result ℕ Refusal)
    → (if early then Err too_large else Err (incorrect_at (suc place)))
    ≡ fault_or (if early then Some too_large else Some (incorrect_at place)) answer
placed_cases true place answer = refl
placed_cases false place answer = refl

-- `plain` is the answer to a text that has no tail
pub plain-walked : (method : ChineseCountMethod) (mark : Mark) (rest : List Mark)
    → plain method (mark ∷ rest) ≡ walked_answer method mark rest
plain-walked method mark rest = by (is_numeral (mark ∷ rest)) (each_may_precede rest) refl refl
    ∙ ap (λ f. fault_or f (front_answer method mark rest)) (sym (faults-at method rest)) where
      by : (k e : Bool) → is_numeral (mark ∷ rest) ≡ k → each_may_precede rest ≡ e
          → (if k then (if not (is_unfit method mark || some_unfit method rest)
          && nat_lt (value method (with_first_digit (mark ∷ rest))) (2 ^ 128)
          then Ok (value method (with_first_digit (mark ∷ rest))) else Err too_large)
          else (if is_early method (mark ∷ rest) (if e then 0 else suc (place_of rest))
          then Err too_large else Err (incorrect_at (if e then 0 else suc (place_of rest)))))
          ≡ fault_or (faults_by e (some_unfit method rest || some_overflowing method rest)
          (is_early_at method rest (place_of rest)) (place_of rest))
          (if k then number_answer (value method (with_first_digit (mark ∷ rest)))
          else Err (incorrect_at 0))
      by true true p q =
          numeral_cases (some_unfit method rest) (some_overflowing method rest)
          (is_unfit method mark)
          _ (numeral_fits method mark rest p)
          (λ h. let a = overflow-value method rest h in let b =
          opened_value method mark rest in omega (arith, a, b))
      by true false p q = absurd (let t = numeral_tail mark rest p in cc)
      by false true p q = refused_cases (some_unfit method rest || some_overflowing method rest)
          (Err (incorrect_at 0)) refl
      by false false p q =
          ap (λ (b : Bool). if b then Err too_large else Err (incorrect_at (suc (place_of rest))))
          (early_suc method mark rest (place_of rest))
          ∙ placed_cases (is_early_at method rest (place_of rest)) (place_of rest) _
