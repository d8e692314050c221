-- Texts whose units are all below a limit, up to which two methods have the same scales, are judged
-- alike under both methods.
use Rattle.std.proofs.Common.{◌≡◌, ℕ, zero, suc, ◌+◌, ◌-◌, ◌*◌, ◌/◌, ◌^◌, max, ℤ, Bool, true, false, not, ◌&&◌, ◌||◌, ◌==◌, nat_lt, nat_le, if◌then◌else◌, List, [], ◌∷◌, length, map, reverse, take, drop, take_while, Result, Ok, Err, is_ok, refl, sym, ap, ap₂, ◌∙◌, arith}
use Rattle.std.proofs.lemmas.Bool.Decides.{nat_tests}
use Rattle.std.specs.List.{prefix_len}
use Rattle.cn_core.specs.declared.method.ChineseCountMethod.{ChineseCountMethod}
use Rattle.cn_core.specs.Judge.{Judges, numeral_answer}
use Rattle.cn_core.specs.Mark.{Mark, digit, unit, other}
use Rattle.cn_core.specs.Numeral.{is_numeral, with_first_digit}
use Rattle.cn_core.specs.Place.{body, is_below, is_early, is_overflowing, some_unfit, some_overflowing, ends_apart}
use Rattle.cn_core.specs.Refusal.{Refusal, incorrect_at, too_large}
use Rattle.cn_core.specs.Scale.{scale, exponent}
use Rattle.cn_core.specs.Text.{text_of, marks_of}
use Rattle.cn_core.specs.Reading.{Reads, leading_sign, sign_len}
use Rattle.cn_core.specs.Value.{value, colloquial_value, numeral_value, product, records_from}
use Rattle.cn_core.specs.Whole.{Kind}
use Rattle.cn_core.specs.Judging.{place_of, judge}
use Rattle.cn_core.proofs.Fronts.{and-left, and-right}
use Rattle.cn_core.proofs.Judging.{Judges-judge, Judges-same, Judges-by_walk}
use Rattle.cn_core.proofs.Sums.{all_below}

module _ (one second : ChineseCountMethod) (limit : ℕ)
    (same : (rank : ℕ) → nat_lt rank limit ≡ true → exponent one rank ≡ exponent second rank) where
  abbrev small : List Mark → Bool
  small marks = all_below limit marks

  scales-same : (rank : ℕ) → nat_lt rank limit ≡ true → scale one rank ≡ scale second rank
  scales-same rank h = ap (λ e. 10 ^ e) (same rank h)

  product-same : (least : ℕ) (marks : List Mark) → small marks ≡ true
      → product (map (scale one) (records_from least marks))
      ≡ product (map (scale second) (records_from least marks))
  product-same least [] h = refl
  product-same least (digit number ∷ rest) h = product-same least rest h
  product-same least (other ∷ rest) h = product-same least rest h
  product-same least (unit rank ∷ rest) h =
      let others = and-right (nat_lt rank limit) _ h in
      grind (
        arith,
        nat_tests,
        scales-same rank (and-left (nat_lt rank limit) _ h),
        product-same (rank + 1) rest others,
        product-same least rest others,
      )

  value-same : (marks : List Mark) → small marks ≡ true → value one marks ≡ value second marks
  value-same [] h = refl
  value-same (digit number ∷ rest) h =
      ap₂ (λ w v. number * w + v) (product-same 0 rest h) (value-same rest h)
  value-same (other ∷ rest) h = value-same rest h
  value-same (unit rank ∷ rest) h = value-same rest (and-right (nat_lt rank limit) _ h)

  colloquial-same : (marks : List Mark) → small marks ≡ true
      → colloquial_value one marks ≡ colloquial_value second marks
  colloquial-same [] h = refl
  colloquial-same (digit number ∷ rest) h =
      ap₂ (λ w v. number * w + v) (product-same 0 rest h) (colloquial-same rest h)
  colloquial-same (other ∷ rest) h = colloquial-same rest h
  colloquial-same (unit rank ∷ []) h = refl
  colloquial-same (unit rank ∷ unit next ∷ rest) h =
      colloquial-same (unit next ∷ rest) (and-right (nat_lt rank limit) _ h)
  colloquial-same (unit rank ∷ other ∷ rest) h =
      colloquial-same (other ∷ rest) (and-right (nat_lt rank limit) _ h)
  colloquial-same (unit rank ∷ digit number ∷ mark ∷ rest) h =
      colloquial-same (digit number ∷ mark ∷ rest) (and-right (nat_lt rank limit) _ h)
  colloquial-same (unit rank ∷ digit number ∷ []) h =
      ap (λ s. if nat_lt rank 2 then number else number * s / 10)
      (scales-same rank (and-left (nat_lt rank limit) _ h))

  with_first_digit-small : (marks : List Mark) → small marks ≡ true
      → small (with_first_digit marks) ≡ true
  with_first_digit-small [] h = h
  with_first_digit-small (digit number ∷ rest) h = h
  with_first_digit-small (other ∷ rest) h = h
  with_first_digit-small (unit rank ∷ rest) h = by (rank == 1) where
    by : (b : Bool) → small ((if b then digit 10 else unit rank) ∷ rest) ≡ true
    by true = and-right (nat_lt rank limit) _ h
    by false = h

  pub unfit-same : (marks : List Mark) → small marks ≡ true
      → some_unfit one marks ≡ some_unfit second marks
  unfit-same [] h = refl
  unfit-same (digit number ∷ rest) h = unfit-same rest h
  unfit-same (other ∷ rest) h = unfit-same rest h
  unfit-same (unit rank ∷ rest) h =
      ap₂ (λ (e : ℕ) (b : Bool). not (nat_le e 38) || b)
      (same rank (and-left (nat_lt rank limit) _ h))
      (unfit-same rest (and-right (nat_lt rank limit) _ h))

  take-small : (n : ℕ) (marks : List Mark) → small marks ≡ true → small (take n marks) ≡ true
  take-small zero marks h = refl
  take-small (suc n) [] h = refl
  take-small (suc n) (mark ∷ rest) h = rw (and-left (is_below limit mark) _ h) (take-small n rest
      (and-right (is_below limit mark) _ h))

  overflowing-one : (mark : Mark) (rest : List Mark) → small rest ≡ true
      → is_overflowing one mark rest ≡ is_overflowing second mark rest
  overflowing-one (digit number) rest h = refl
  overflowing-one other rest h = refl
  overflowing-one (unit rank) [] h = refl
  overflowing-one (unit rank) (unit next ∷ rest) h = refl
  overflowing-one (unit rank) (other ∷ rest) h = refl
  overflowing-one (unit rank) (digit number ∷ rest) h =
      ap (λ v. nat_le (2 ^ 128) v) (value-same (take_while (is_below rank) (digit number ∷ rest))
      (take-small (prefix_len (is_below rank) (digit number ∷ rest)) (digit number ∷ rest) h))

  overflowing-same : (marks : List Mark) → small marks ≡ true
      → some_overflowing one marks ≡ some_overflowing second marks
  overflowing-same [] h = refl
  overflowing-same (mark ∷ rest) h =
      let rest_small = and-right (is_below limit mark) _ h in
      ap₂ (λ x y. x || y) (overflowing-one mark rest rest_small) (overflowing-same rest rest_small)

  drop-small : (n : ℕ) (marks : List Mark) → small marks ≡ true → small (drop n marks) ≡ true
  drop-small zero marks h = h
  drop-small (suc n) [] h = refl
  drop-small (suc n) (mark ∷ rest) h = drop-small n rest (and-right (is_below limit mark) _ h)

  early-same : (marks : List Mark) (place : ℕ) → small marks ≡ true
      → is_early one marks place ≡ is_early second marks place
  early-same marks place h =
      ap₂ (λ x y. x || y) (unfit-same (drop (place + 1) marks) (drop-small (place + 1) marks h))
      (overflowing-same (drop (max place 1) marks) (drop-small (max place 1) marks h))

  pub numeral_value-same : (marks : List Mark) → small marks ≡ true
      → numeral_value one marks ≡ numeral_value second marks
  numeral_value-same marks h =
      colloquial-same (with_first_digit marks) (with_first_digit-small marks h)

  numeral_answer-same : (marks : List Mark) → small marks ≡ true
      → numeral_answer one marks ≡ numeral_answer second marks
  numeral_answer-same marks h =
      ap₂ (λ (u : Bool) (number : ℕ). if not u && nat_lt number (2 ^ 128) then Ok number
      else Err too_large) (unfit-same marks h)
      (numeral_value-same marks h)

  body-small : (marks : List Mark) → small marks ≡ true → small (body marks) ≡ true
  body-small marks h = by (ends_apart (reverse marks)) where
    by : (b : Bool) → small (if b then take (length marks - 1) marks else marks) ≡ true
    by true = take-small (length marks - 1) marks h
    by false = h

  judge-same : (marks : List Mark) → small marks ≡ true → judge one marks ≡ judge second marks
  judge-same [] h = refl
  judge-same (mark ∷ rest) h =
      let marks = mark ∷ rest in
      let inner = body-small marks h in
      let last = ap (λ r. if is_ok r then Err (incorrect_at (length marks - 1)) else Err too_large)
      (numeral_answer-same (body marks) inner) in
      let place = place_of (body marks) in
      let refused = ap (λ b. if b then Err too_large else Err (incorrect_at place))
      (early-same (body marks) place inner) in
      ap₂ (λ x y. if is_numeral marks then x else y) (numeral_answer-same marks h)
      (ap₂ (λ x y. if is_numeral (body marks) then x else y) last refused)

  Judges-same_units : (marks : List Mark) (answer : Result ℕ Refusal) → small marks ≡ true
      → Judges one marks answer → Judges second marks answer
  Judges-same_units marks answer h is =
      Judges-by_walk second marks answer
      (sym (judge-same marks h) ∙ Judges-same one marks (judge one marks) answer
      (Judges-judge one marks) is)

  pub Reads-same_units : (kind : Kind) (bytes : List ℕ) (answer : Result ℤ Refusal)
      → let text = text_of bytes in small (marks_of (drop (sign_len (leading_sign kind.signed
      text)) text)) ≡ true
      → Reads kind one bytes answer → Reads kind second bytes answer
  Reads-same_units kind bytes answer h (judged, is, answer_is) =
      let text = text_of bytes in (
        judged,
        Judges-same_units (marks_of (drop (sign_len (leading_sign kind.signed text)) text))
            judged h is,
        answer_is,
      )
