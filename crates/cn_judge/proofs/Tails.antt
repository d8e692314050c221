-- The rule on the last mark, in terms of the answer to the list without it.
use Rattle.std.proofs.Common.{◌≡◌, ℕ, ◌+◌, ◌-◌, ◌*◌, ◌/◌, ◌^◌, ◌<◌, Bool, true, false, not, ◌&&◌, ◌||◌, nat_le, nat_lt, ◌==◌, List, [], ◌∷◌, ◌++◌, length, length-append, reverse, take, Some, Result, Ok, Err, is_ok, refl, sym, ap, ap₂, ◌∙◌, arith, if◌then◌else◌}
use Rattle.std.specs.Option.{option_map_or}
use Rattle.std.proofs.lemmas.Bool.Decides.{nat_tests}
use Rattle.std.proofs.lemmas.List.{length-reverse, reverse-append}
use Rattle.std.proofs.Math.Seq.{take-append-add}
use Rattle.cn_core.specs.declared.method.ChineseCountMethod.{ChineseCountMethod}
use Rattle.cn_core.specs.Mark.{Mark, digit, unit, other}
use Rattle.cn_core.specs.Numeral.{is_numeral, with_first_digit, may_precede, each_may_precede, first_not_smaller, multiplies_upwards, counts_a_unit, starts_with_digit}
use Rattle.cn_core.specs.Place.{body, ends_apart, is_tail, some_unfit, is_unfit, is_early}
use Rattle.cn_core.specs.Refusal.{Refusal, incorrect_at, too_large}
use Rattle.cn_core.specs.Scale.{scale}
use Rattle.cn_core.specs.Value.{value, colloquial_value, weight, records_from}
use Rattle.cn_core.specs.Judge.{numeral_answer, last_mark_answer}
use Rattle.cn_core.specs.Judging.{place_of, judge, judge_body}
use Rattle.cn_core.proofs.Fronts.{and-left, and-right, each-append}
use Rattle.cn_judge.proofs.Faults.{plain, numeral_tail}
use Rattle.cn_judge.specs.Private.Walk.{number_answer, tail_answer}

apart-last : (ys : List Mark) (s l : Mark) → 0 < length ys → ends_apart (l ∷ s ∷ ys) ≡ is_tail s l
apart-last [] s l some = absurd (omega (arith, some))
apart-last (y ∷ ys) s l some = refl

take-last : (front : List Mark) (s l : Mark)
    → take (length (front ++ s ∷ l ∷ []) - 1) (front ++ s ∷ l ∷ []) ≡ front ++ s ∷ []
take-last front s l =
    let long = length-append front (s ∷ l ∷ []) in
    let less : length (front ++ s ∷ l ∷ []) - 1 ≡ length front + 1 = omega (arith, long) in
    ap (λ n. take n (front ++ s ∷ l ∷ [])) less ∙ take-append-add front (s ∷ l ∷ []) 1

-- the body of a list of at least three marks, by its last two marks
pub body-tail : (x : Mark) (xs : List Mark) (s l : Mark)
    → body (x ∷ xs ++ s ∷ l ∷ []) ≡ x ∷ xs ++ s ∷ (if is_tail s l then [] else l ∷ [])
body-tail x xs s l =
    let marks : List Mark = x ∷ xs ++ s ∷ l ∷ [] in
    let turned : reverse marks ≡ l ∷ s ∷ reverse (x ∷ xs) = reverse-append (x ∷ xs) (s ∷ l ∷ []) in
    let some : 0 < length (reverse (x ∷ xs)) = let same =
    length-reverse (x ∷ xs) in omega (arith, same) in
    ap (λ (b : Bool). if b then take (length marks - 1) marks else marks)
    (ap ends_apart turned ∙ apart-last (reverse (x ∷ xs)) s l some)
    ∙ by (is_tail s l) where
      by : (b : Bool) → (if b then take (length (x ∷ xs ++ s ∷ l ∷ []) - 1) (x ∷ xs ++ s ∷ l ∷ [])
          else x ∷ xs ++ s ∷ l ∷ []) ≡ x ∷ xs ++ s ∷ (if b then [] else l ∷ [])
      by true = take-last (x ∷ xs) s l
      by false = refl

-- a list that ends with a unit, with and without a digit after the unit
records-tail : (least : ℕ) (xs : List Mark) (r d : ℕ)
    → records_from least (xs ++ unit r ∷ digit d ∷ []) ≡ records_from least (xs ++ unit r ∷ [])
records-tail least [] r d = refl
records-tail least (digit n ∷ xs) r d = records-tail least xs r d
records-tail least (other ∷ xs) r d = records-tail least xs r d
records-tail least (unit k ∷ xs) r d = ap₂ (λ later same. if nat_le least k then k ∷ later
    else same) (records-tail (k + 1) xs r d) (records-tail least xs r d)

colloquial-tail : (method : ChineseCountMethod) (xs : List Mark) (r d : ℕ) → nat_lt r 2 ≡ false
    → colloquial_value method (xs ++ unit r ∷ digit d ∷ [])
    ≡ value method (xs ++ unit r ∷ []) + d * scale method r / 10
colloquial-tail method [] r d h = rw h (omega arith)
colloquial-tail method (digit n ∷ xs) r d h =
    let ih = colloquial-tail method xs r d h in rw (ih, records-tail 0 xs r d) (omega arith)
colloquial-tail method (other ∷ xs) r d h = colloquial-tail method xs r d h
colloquial-tail method (unit k ∷ []) r d h = colloquial-tail method [] r d h
colloquial-tail method (unit k ∷ unit n ∷ xs) r d h = colloquial-tail method (unit n ∷ xs) r d h
colloquial-tail method (unit k ∷ other ∷ xs) r d h = colloquial-tail method (other ∷ xs) r d h
colloquial-tail method (unit k ∷ digit n ∷ []) r d h = colloquial-tail method (digit n ∷ []) r d h
colloquial-tail method (unit k ∷ digit n ∷ m ∷ xs) r d h =
    colloquial-tail method (digit n ∷ m ∷ xs) r d h

colloquial-unit : (method : ChineseCountMethod) (xs : List Mark) (r : ℕ)
    → colloquial_value method (xs ++ unit r ∷ []) ≡ value method (xs ++ unit r ∷ [])
colloquial-unit method [] r = refl
colloquial-unit method (digit n ∷ xs) r =
    ap (λ v. n * weight method (xs ++ unit r ∷ []) + v) (colloquial-unit method xs r)
colloquial-unit method (other ∷ xs) r = colloquial-unit method xs r
colloquial-unit method (unit k ∷ []) r = refl
colloquial-unit method (unit k ∷ unit n ∷ xs) r = colloquial-unit method (unit n ∷ xs) r
colloquial-unit method (unit k ∷ other ∷ xs) r = colloquial-unit method (other ∷ xs) r
colloquial-unit method (unit k ∷ digit n ∷ []) r = colloquial-unit method (digit n ∷ []) r
colloquial-unit method (unit k ∷ digit n ∷ m ∷ xs) r = colloquial-unit method (digit n ∷ m ∷ xs) r

colloquial-plain : (method : ChineseCountMethod) (xs : List Mark) (s l : Mark) → is_tail s l ≡ false
    → colloquial_value method (xs ++ s ∷ l ∷ []) ≡ value method (xs ++ s ∷ l ∷ [])
colloquial-plain method [] (digit a) (digit b) h = refl
colloquial-plain method [] (digit a) (unit b) h = refl
colloquial-plain method [] (digit a) other h = refl
colloquial-plain method [] other (digit b) h = refl
colloquial-plain method [] other (unit b) h = refl
colloquial-plain method [] other other h = refl
colloquial-plain method [] (unit a) (unit b) h = refl
colloquial-plain method [] (unit a) other h = refl
colloquial-plain method [] (unit a) (digit b) h = by (nat_le 2 a) refl h where
  by : (c : Bool) → nat_le 2 a ≡ c → (c && true) ≡ false
      → (if nat_lt a 2 then b else b * scale method a / 10) ≡ b * 1 + 0
  by true e h = cc
  by false e h = let t : nat_lt a 2 ≡ true = grind (arith, nat_tests) in rw t (omega arith)
colloquial-plain method (digit n ∷ xs) s l h =
    ap (λ v. n * weight method (xs ++ s ∷ l ∷ []) + v) (colloquial-plain method xs s l h)
colloquial-plain method (other ∷ xs) s l h = colloquial-plain method xs s l h
colloquial-plain method (unit k ∷ []) (digit a) l h = colloquial-plain method [] (digit a) l h
colloquial-plain method (unit k ∷ []) (unit a) l h = colloquial-plain method [] (unit a) l h
colloquial-plain method (unit k ∷ []) other l h = colloquial-plain method [] other l h
colloquial-plain method (unit k ∷ unit n ∷ xs) s l h = colloquial-plain method (unit n ∷ xs) s l h
colloquial-plain method (unit k ∷ other ∷ xs) s l h = colloquial-plain method (other ∷ xs) s l h
colloquial-plain method (unit k ∷ digit n ∷ []) s l h = colloquial-plain method (digit n ∷ []) s l h
colloquial-plain method (unit k ∷ digit n ∷ m ∷ xs) s l h =
    colloquial-plain method (digit n ∷ m ∷ xs) s l h

first-tail : (k : ℕ) (xs : List Mark) (r d : ℕ)
    → first_not_smaller k (xs ++ unit r ∷ digit d ∷ []) ≡ first_not_smaller k (xs ++ unit r ∷ [])
first-tail k [] r d = refl
first-tail k (digit n ∷ xs) r d = first-tail k xs r d
first-tail k (other ∷ xs) r d = first-tail k xs r d
first-tail k (unit n ∷ xs) r d = ap (λ o. if nat_lt n k then o else Some n) (first-tail k xs r d)

precede-head : (m x : Mark) (p q : List Mark)
    → ((k : ℕ) → first_not_smaller k (x ∷ p) ≡ first_not_smaller k (x ∷ q))
    → may_precede m (x ∷ p) ≡ may_precede m (x ∷ q)
precede-head (digit a) (digit b) p q h = refl
precede-head (digit a) (unit b) p q h = refl
precede-head (digit a) other p q h = refl
precede-head other x p q h = refl
precede-head (unit a) (digit b) p q h =
    ap (λ o. counts_a_unit (unit a) (digit b ∷ p) && option_map_or (λ next. nat_lt a next) o true)
    (h a)
precede-head (unit a) (unit b) p q h =
    ap (λ o. multiplies_upwards (unit a) (unit b ∷ p) && counts_a_unit (unit a) (unit b ∷ p)
    && option_map_or (λ next. nat_lt a next) o true) (h a)
precede-head (unit a) other p q h = ap (λ o. counts_a_unit (unit a) (other ∷ p)
    && option_map_or (λ next. nat_lt a next) o true) (h a)

each-tail : (xs : List Mark) (r d : ℕ) → each_may_precede (xs ++ unit r ∷ digit d ∷ [])
    ≡ each_may_precede (xs ++ unit r ∷ [])
each-tail [] r d = refl
each-tail (m ∷ []) r d =
    ap (λ b. b && each_may_precede (unit r ∷ digit d ∷ []))
    (precede-head m (unit r) (digit d ∷ []) [] (λ k. first-tail k [] r d))
    ∙ ap (λ b. may_precede m (unit r ∷ []) && b) (each-tail [] r d)
each-tail (m ∷ x ∷ xs) r d =
    ap (λ b. b && each_may_precede (x ∷ xs ++ unit r ∷ digit d ∷ []))
    (precede-head m x (xs ++ unit r ∷ digit d ∷ []) (xs ++ unit r ∷ [])
    (λ k. first-tail k (x ∷ xs) r d))
    ∙ ap (λ b. may_precede m (x ∷ xs ++ unit r ∷ []) && b) (each-tail (x ∷ xs) r d)

-- the first mark of a list, with 十 replaced by the digit ten
abbrev pub first_read : Mark → Mark
first_read (unit rank) = if rank == 1 then digit 10 else unit rank
first_read mark = mark

pub with_first_digit-first : (x : Mark) (rest : List Mark)
    → with_first_digit (x ∷ rest) ≡ first_read x ∷ rest
with_first_digit-first (digit n) rest = refl
with_first_digit-first (unit n) rest = refl
with_first_digit-first other rest = refl

starts_same : (x : Mark) (p q : List Mark) → starts_with_digit (x ∷ p) ≡ starts_with_digit (x ∷ q)
starts_same (digit n) p q = refl
starts_same (unit n) p q = refl
starts_same other p q = refl

numeral-tail : (x : Mark) (xs : List Mark) (r d : ℕ)
    → is_numeral (x ∷ xs ++ unit r ∷ digit d ∷ []) ≡ is_numeral (x ∷ xs ++ unit r ∷ [])
numeral-tail x xs r d =
    ap (λ l. starts_with_digit l && each_may_precede l)
    (with_first_digit-first x (xs ++ unit r ∷ digit d ∷ []))
    ∙ ap (λ b. b && each_may_precede (first_read x ∷ xs ++ unit r ∷ digit d ∷ []))
    (starts_same (first_read x) (xs ++ unit r ∷ digit d ∷ []) (xs ++ unit r ∷ []))
    ∙ ap (λ b. starts_with_digit (first_read x ∷ xs ++ unit r ∷ []) && b)
    (each-tail (first_read x ∷ xs) r d)
    ∙ ap (λ l. starts_with_digit l && each_may_precede l)
    (sym (with_first_digit-first x (xs ++ unit r ∷ [])))

unfit-tail : (method : ChineseCountMethod) (xs : List Mark) (r d : ℕ)
    → some_unfit method (xs ++ unit r ∷ digit d ∷ []) ≡ some_unfit method (xs ++ unit r ∷ [])
unfit-tail method [] r d = refl
unfit-tail method (x ∷ xs) r d = ap (λ b. is_unfit method x || b) (unfit-tail method xs r d)

-- the answer in terms of the list and its body
abbrev by_body : ChineseCountMethod → List Mark → List Mark → Result ℕ Refusal
by_body method marks body = if is_numeral marks then numeral_answer method marks
    else (if is_numeral body then last_mark_answer method marks else judge_body method body)

-- a list without a tail is judged as a whole
body_kept : (method : ChineseCountMethod) (x : Mark) (rest : List Mark) → body (x ∷ rest) ≡ x ∷ rest
    → (starts_with_digit (first_read x ∷ rest) ≡ true
    → colloquial_value method (first_read x ∷ rest) ≡ value method (first_read x ∷ rest))
    → judge method (x ∷ rest) ≡ plain method (x ∷ rest)
body_kept method x rest same number =
    ap (by_body method (x ∷ rest)) same ∙ by (is_numeral (x ∷ rest)) refl where
      by : (k : Bool) → is_numeral (x ∷ rest) ≡ k
          → (if k then numeral_answer method (x ∷ rest)
          else (if k then last_mark_answer method (x ∷ rest) else judge_body method (x ∷ rest)))
          ≡ (if k then (if not (some_unfit method (x ∷ rest))
          && nat_lt (value method (with_first_digit (x ∷ rest))) (2 ^ 128)
          then Ok (value method (with_first_digit (x ∷ rest))) else Err too_large)
          else judge_body method (x ∷ rest))
      by true e =
          let starts : starts_with_digit (first_read x ∷ rest) ≡ true =
          ap starts_with_digit (sym (with_first_digit-first x rest))
          ∙ and-left (starts_with_digit (with_first_digit (x ∷ rest))) _ e in
          let same_number : colloquial_value method (with_first_digit (x ∷ rest))
          ≡ value method (with_first_digit (x ∷ rest)) =
          rw (with_first_digit-first x rest) (number starts) in
          ap (λ n. if not (some_unfit method (x ∷ rest)) && nat_lt n (2 ^ 128) then Ok n
          else Err too_large) same_number
      by false e = refl

pub judge-one : (method : ChineseCountMethod) (x : Mark)
    → judge method (x ∷ []) ≡ plain method (x ∷ [])
judge-one method x = body_kept method x [] refl (one (first_read x)) where
  one : (z : Mark) → starts_with_digit (z ∷ []) ≡ true
      → colloquial_value method (z ∷ []) ≡ value method (z ∷ [])
  one (digit n) h = refl
  one (unit n) h = refl
  one other h = refl

-- in a list of two marks, the first is not a unit, or the list is not a numeral
pub judge-two : (method : ChineseCountMethod) (x y : Mark)
    → judge method (x ∷ y ∷ []) ≡ plain method (x ∷ y ∷ [])
judge-two method x y = body_kept method x (y ∷ []) refl (two (first_read x) y) where
  two : (z y : Mark) → starts_with_digit (z ∷ y ∷ []) ≡ true
      → colloquial_value method (z ∷ y ∷ []) ≡ value method (z ∷ y ∷ [])
  two (digit n) (digit m) h = refl
  two (digit n) (unit m) h = refl
  two (digit n) other h = refl
  two (unit n) y h = cc
  two other y h = cc

pub judge-plain : (method : ChineseCountMethod) (x : Mark) (xs : List Mark) (s l : Mark)
    → is_tail s l ≡ false
    → judge method (x ∷ xs ++ s ∷ l ∷ []) ≡ plain method (x ∷ xs ++ s ∷ l ∷ [])
judge-plain method x xs s l h =
    body_kept method x (xs ++ s ∷ l ∷ [])
    (body-tail x xs s l ∙ ap (λ (b : Bool). x ∷ xs ++ s ∷ (if b then [] else l ∷ [])) h)
    (λ _. colloquial-plain method (first_read x ∷ xs) s l h)

sum_cases : (unfit : Bool) (method : ChineseCountMethod) (place rank number before : ℕ)
    → (if not unfit && nat_lt (before + number * scale method rank / 10) (2 ^ 128)
    then Ok (before + number * scale method rank / 10) else Err too_large)
    ≡ tail_answer method place rank (digit number)
    (if not unfit && nat_lt before (2 ^ 128) then Ok before else Err too_large)
sum_cases true method place rank number before = refl
sum_cases false method place rank number before = by (nat_lt before (2 ^ 128)) refl where
  by : (b : Bool) → nat_lt before (2 ^ 128) ≡ b
      → number_answer (before + number * scale method rank / 10)
      ≡ tail_answer method place rank (digit number) (if b then Ok before else Err too_large)
  by true e = refl
  by false e = rw (great (number * scale method rank / 10)) where
    great : (x : ℕ) → nat_lt (before + x) (2 ^ 128) ≡ false
    great x = grind (arith, nat_tests)

body_refused : (method : ChineseCountMethod) (place rank : ℕ) (last : Mark) (marks : List Mark)
    → judge_body method marks ≡ tail_answer method place rank last (judge_body method marks)
body_refused method place rank last marks = by (is_early method marks (place_of marks)) where
  by : (b : Bool) → (if b then Err too_large else Err (incorrect_at (place_of marks)))
      ≡ tail_answer method place rank last
      (if b then Err too_large else Err (incorrect_at (place_of marks)))
  by true = refl
  by false = refl

digit_tail : (method : ChineseCountMethod) (x : Mark) (xs : List Mark) (r d place : ℕ)
    → nat_le 2 r ≡ true
    → judge method (x ∷ xs ++ unit r ∷ digit d ∷ [])
    ≡ tail_answer method place r (digit d) (plain method (x ∷ xs ++ unit r ∷ []))
digit_tail method x xs r d place h =
    let apart : body (x ∷ xs ++ unit r ∷ digit d ∷ []) ≡ x ∷ xs ++ unit r ∷ [] =
    body-tail x xs (unit r) (digit d)
    ∙ ap (λ (b : Bool). x ∷ xs ++ unit r ∷ (if b && true then [] else digit d ∷ [])) h in
    let big : nat_lt r 2 ≡ false = grind (arith, nat_tests) in
    let number : colloquial_value method (with_first_digit (x ∷ xs ++ unit r ∷ digit d ∷ []))
    ≡ value method (with_first_digit (x ∷ xs ++ unit r ∷ [])) + d * scale method r / 10 =
    ap (colloquial_value method) (with_first_digit-first x (xs ++ unit r ∷ digit d ∷ []))
    ∙ colloquial-tail method (first_read x ∷ xs) r d big
    ∙ ap (λ l. value method l + d * scale method r / 10)
    (sym (with_first_digit-first x (xs ++ unit r ∷ []))) in
    ap (by_body method (x ∷ xs ++ unit r ∷ digit d ∷ [])) apart
    ∙ ap (λ (k : Bool). if k then numeral_answer method (x ∷ xs ++ unit r ∷ digit d ∷ [])
    else (if is_numeral (x ∷ xs ++ unit r ∷ [])
    then last_mark_answer method (x ∷ xs ++ unit r ∷ digit d ∷ [])
    else judge_body method (x ∷ xs ++ unit r ∷ []))) (numeral-tail x xs r d)
    ∙ by (is_numeral (x ∷ xs ++ unit r ∷ [])) number where
      by : (k : Bool) → colloquial_value method
          (with_first_digit (x ∷ xs ++ unit r ∷ digit d ∷ []))
          ≡ value method (with_first_digit (x ∷ xs ++ unit r ∷ [])) + d * scale method r / 10
          → (if k then numeral_answer method (x ∷ xs ++ unit r ∷ digit d ∷ [])
          else (if k then last_mark_answer method (x ∷ xs ++ unit r ∷ digit d ∷ [])
          else judge_body method (x ∷ xs ++ unit r ∷ [])))
          ≡ tail_answer method place r (digit d)
          (if k then (if not (some_unfit method (x ∷ xs ++ unit r ∷ []))
          && nat_lt (value method (with_first_digit (x ∷ xs ++ unit r ∷ []))) (2 ^ 128)
          then Ok (value method (with_first_digit (x ∷ xs ++ unit r ∷ []))) else Err too_large)
          else judge_body method (x ∷ xs ++ unit r ∷ []))
      by true number =
          ap (λ n. if not (some_unfit method (x ∷ xs ++ unit r ∷ digit d ∷ []))
          && nat_lt n (2 ^ 128) then Ok n else Err too_large) number
          ∙ ap (λ (b : Bool). if not b &&
          nat_lt (value method (with_first_digit (x ∷ xs ++ unit r ∷ []))
          + d * scale method r / 10) (2 ^ 128)
          then Ok (value method (with_first_digit (x ∷ xs ++ unit r ∷ []))
          + d * scale method r / 10) else Err too_large) (unfit-tail method (x ∷ xs) r d)
          ∙ sum_cases (some_unfit method (x ∷ xs ++ unit r ∷ [])) method place r d
          (value method (with_first_digit (x ∷ xs ++ unit r ∷ [])))
      by false number = body_refused method place r (digit d) (x ∷ xs ++ unit r ∷ [])

-- a list is not a numeral if its last mark may not be before the empty list
numeral-end : (x : Mark) (xs : List Mark) (s l : Mark) → may_precede l [] ≡ false
    → is_numeral (x ∷ xs ++ s ∷ l ∷ []) ≡ false
numeral-end x xs s l h = by (is_numeral (x ∷ xs ++ s ∷ l ∷ [])) refl where
  by : (k : Bool) → is_numeral (x ∷ xs ++ s ∷ l ∷ []) ≡ k → k ≡ false
  by true e = absurd (let t = and-right (may_precede s (l ∷ [])) _
      (each-append xs (s ∷ l ∷ []) (numeral_tail x (xs ++ s ∷ l ∷ []) e)) in let u =
      and-left (may_precede l []) _ t in cc)
  by false e = refl

stop_tail : (method : ChineseCountMethod) (x : Mark) (xs : List Mark) (r : ℕ) (l : Mark)
    → is_tail (unit r) l ≡ true → may_precede l [] ≡ false
    → judge method (x ∷ xs ++ unit r ∷ l ∷ [])
    ≡ (if is_numeral (x ∷ xs ++ unit r ∷ [])
    then last_mark_answer method (x ∷ xs ++ unit r ∷ l ∷ [])
    else judge_body method (x ∷ xs ++ unit r ∷ []))
stop_tail method x xs r l h stop =
    let apart : body (x ∷ xs ++ unit r ∷ l ∷ []) ≡ x ∷ xs ++ unit r ∷ [] =
    body-tail x xs (unit r) l ∙ ap (λ (b : Bool). x ∷ xs
    ++ unit r ∷ (if b then [] else l ∷ [])) h in
    rw (numeral-end x xs (unit r) l stop, apart)

last_stop : (method : ChineseCountMethod) (x : Mark) (xs : List Mark) (r place : ℕ) (l : Mark)
    → is_tail (unit r) l ≡ true
    → place ≡ length (x ∷ xs ++ unit r ∷ l ∷ []) - 1
    → ((number : ℕ) → tail_answer method place r l (Ok number) ≡ Err (incorrect_at place))
    → (if is_numeral (x ∷ xs ++ unit r ∷ [])
    then last_mark_answer method (x ∷ xs ++ unit r ∷ l ∷ [])
    else judge_body method (x ∷ xs ++ unit r ∷ []))
    ≡ tail_answer method place r l (plain method (x ∷ xs ++ unit r ∷ []))
last_stop method x xs r place l h at_place stop =
    let apart : body (x ∷ xs ++ unit r ∷ l ∷ []) ≡ x ∷ xs ++ unit r ∷ [] =
    body-tail x xs (unit r) l ∙ ap (λ (b : Bool). x ∷ xs
    ++ unit r ∷ (if b then [] else l ∷ [])) h in
    let number : colloquial_value method (with_first_digit (x ∷ xs ++ unit r ∷ []))
    ≡ value method (with_first_digit (x ∷ xs ++ unit r ∷ [])) =
    ap (colloquial_value method) (with_first_digit-first x (xs ++ unit r ∷ []))
    ∙ colloquial-unit method (first_read x ∷ xs) r
    ∙ ap (value method) (sym (with_first_digit-first x (xs ++ unit r ∷ []))) in
    rw (apart, number, ← at_place) (by (is_numeral (x ∷ xs ++ unit r ∷ [])) (some_unfit method
    (x ∷ xs ++ unit r ∷ [])) (nat_lt (value method (with_first_digit (x ∷ xs ++ unit r ∷ [])))
    (2 ^ 128)) (value method (with_first_digit (x ∷ xs ++ unit r ∷ [])))) where
      by : (k u t : Bool) (number : ℕ)
          → (if k then (if is_ok (if not u && t then Ok number else Err too_large)
          then Err (incorrect_at place) else Err too_large)
          else judge_body method (x ∷ xs ++ unit r ∷ []))
          ≡ tail_answer method place r l
          (if k then (if not u && t then Ok number else Err too_large)
          else judge_body method (x ∷ xs ++ unit r ∷ []))
      by true true t number = refl
      by true false true number = sym (stop number)
      by true false false number = refl
      by false u t number = body_refused method place r l (x ∷ xs ++ unit r ∷ [])

-- a list with a tail
pub judge-tail : (method : ChineseCountMethod) (x : Mark) (xs : List Mark) (r : ℕ) (l : Mark)
    (place : ℕ) → is_tail (unit r) l ≡ true
    → place ≡ length (x ∷ xs ++ unit r ∷ l ∷ []) - 1
    → judge method (x ∷ xs ++ unit r ∷ l ∷ [])
    ≡ tail_answer method place r l (plain method (x ∷ xs ++ unit r ∷ []))
judge-tail method x xs r (digit d) place h at_place =
    digit_tail method x xs r d place (and-left (nat_le 2 r) _ h)
judge-tail method x xs r other place h at_place = stop_tail method x xs r other h refl
    ∙ last_stop method x xs r place other h at_place (λ n. refl)
judge-tail method x xs r (unit k) place h at_place =
    let low : not (nat_le 1 k) ≡ true = and-right (nat_le 2 r) _ h in
    let zero_rank : k ≡ 0 = zero_of k low in
    let stop : may_precede (unit k) [] ≡ false = rw zero_rank in
    stop_tail method x xs r (unit k) h stop
    ∙ last_stop method x xs r place (unit k) h at_place (λ n. refl) where
      zero_of : (k : ℕ) → not (nat_le 1 k) ≡ true → k ≡ 0
      zero_of k h = by (nat_le 1 k) refl h where
        by : (b : Bool) → nat_le 1 k ≡ b → not b ≡ true → k ≡ 0
        by true e h = cc
        by false e h = grind (arith, nat_tests)
