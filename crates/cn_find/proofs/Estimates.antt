-- A numeral never means an approximate number by its own digits.
use Rattle.std.proofs.Common.{◌≡◌, ℕ, codes, ◌<◌, Bool, true, false, not, ◌&&◌, List, [], ◌∷◌, ◌++◌, Option, Some, None, refl, ap, ◌∙◌, ◌==◌, if◌then◌else◌, arith}
use Rattle.std.specs.Char.{char_set_contains}
use Rattle.std.specs.List.{list_all}
use Rattle.std.proofs.Math.Bool.{and-false}
use Rattle.std.proofs.lemmas.Bool.{not-true}
use Rattle.std.proofs.lemmas.Bool.Decides.{nat_tests}
use Rattle.std.proofs.lemmas.List.Folds.{list_all-append}
use Rattle.cn_core.specs.Characters.{digit_of, rank_of}
use Rattle.cn_core.specs.Mark.{Mark, digit, unit, mark_from, mark_of}
use Rattle.cn_core.specs.Numeral.{counts_a_unit, each_may_precede, is_digit_or_unit, is_numeral, may_precede, multiplies_upwards, separates_digits, starts_with_digit}
use Rattle.cn_core.specs.Text.{marks_of}
use Rattle.cn_core.proofs.Fronts.{and-left, and-right, both}
use Rattle.cn_core.proofs.OpenUnits.{digit_of-low}
use Rattle.cn_find.specs.Belongs.{is_chinese_digit}
use Rattle.cn_find.specs.Flags.{Pair, are_near, is_any_digit, is_estimate, is_one_estimate, pair_at, pairs}

-- the pair does not mean an approximate number
abbrev is_far : Pair → Bool
is_far pair = not (is_estimate pair)

one-far : (all : List Pair) → list_all is_far all ≡ true → is_one_estimate all ≡ false
one-far [] far = refl
one-far (pair ∷ []) far = not-true (is_estimate pair) (and-left (is_far pair) true far)
one-far (pair ∷ next ∷ all) far = refl

zero-far : (value next : ℕ) → value < 10 → separates_digits (digit value) (digit next ∷ []) ≡ true
    → are_near (Some value) (Some next) ≡ false
zero-far value next low h = grind (arith, nat_tests)

-- a list of one pair or of none
maybe-far : (b : Bool) (pair : Pair) → is_estimate pair ≡ false
    → list_all is_far (if b then pair ∷ [] else []) ≡ true
maybe-far true pair e = rw e
maybe-far false pair e = refl

pair-far : (c : ℕ) (others : List ℕ) → separates_digits (mark_of c) (marks_of others) ≡ true
    → list_all is_far (pair_at c others) ≡ true
pair-far c [] h = refl
pair-far c (next ∷ others) h =
    maybe-far (is_any_digit c && is_any_digit next) (record { first = c; second = next })
    (by (digit_of c) (digit_of next) refl refl h) where
      by : (d e : Option ℕ) → digit_of c ≡ d → digit_of next ≡ e
          → separates_digits (mark_from d (rank_of c)) (mark_from e (rank_of next) ∷ marks_of others)
          ≡ true → is_estimate (record { first = c; second = next }) ≡ false
      by None e is_d is_e h = rw is_d
      by (Some value) None is_d is_e h =
          ap (λ b. is_chinese_digit c && b && are_near (digit_of c) (digit_of next)) (rw is_e)
          ∙ ap (λ b. b && are_near (digit_of c) (digit_of next)) (and-false (is_chinese_digit c))
      by (Some value) (Some number) is_d is_e h =
          let far : are_near (Some value) (Some number) ≡ false =
          zero-far value number (digit_of-low c value is_d) h in
          ap (λ b. is_chinese_digit c && is_chinese_digit next && b) (rw (is_d, is_e) far)
          ∙ and-false (is_chinese_digit c && is_chinese_digit next)

each-separates : (mark : Mark) (rest : List Mark) → may_precede mark rest ≡ true
    → separates_digits mark rest ≡ true
each-separates mark rest h =
    and-right (is_digit_or_unit mark) _
    (and-left (is_digit_or_unit mark && separates_digits mark rest) _
    (and-left (is_digit_or_unit mark && separates_digits mark rest && multiplies_upwards mark rest)
    _ (and-left (is_digit_or_unit mark && separates_digits mark rest
    && multiplies_upwards mark rest && counts_a_unit mark rest) _ h)))

-- the pairs, cut by a point or not
cut-far : (b : Bool) (all : List Pair) → list_all is_far all ≡ true
    → list_all is_far (if b then [] else all) ≡ true
cut-far true all far = refl
cut-far false all far = far

all-far : (text : List ℕ) → each_may_precede (marks_of text) ≡ true
    → list_all is_far (pairs text) ≡ true
all-far [] h = refl
all-far (c ∷ others) h =
    cut-far (char_set_contains (codes "点點") c) (pair_at c others ++ pairs others)
    (list_all-append is_far (pair_at c others) (pairs others)
    ∙ both _ _ (pair-far c others (each-separates (mark_of c) (marks_of others)
    (and-left (may_precede (mark_of c) (marks_of others)) _ h)))
    (all-far others (and-right (may_precede (mark_of c) (marks_of others)) _ h)))

no-pair-far : (c : ℕ) (others : List ℕ) → digit_of c ≡ None
    → list_all is_far (pair_at c others) ≡ true
no-pair-far c [] e = refl
no-pair-far c (next ∷ others) e = maybe-far (is_any_digit c && is_any_digit next) _ (rw e)

pub no-estimate : (text : List ℕ) → is_numeral (marks_of text) ≡ true
    → is_one_estimate (pairs text) ≡ false
no-estimate [] h = refl
no-estimate (c ∷ others) h = by (digit_of c) (rank_of c) refl refl h where
  by : (d r : Option ℕ) → digit_of c ≡ d → rank_of c ≡ r
      → is_numeral (mark_from d r ∷ marks_of others) ≡ true
      → is_one_estimate (pairs (c ∷ others)) ≡ false
  by (Some value) r is_d is_r h =
      let each : each_may_precede (digit value ∷ marks_of others) ≡ true = h in
      one-far (pairs (c ∷ others)) (all-far (c ∷ others) (rw is_d each))
  by None (Some rank) is_d is_r h =
      let first : Mark = if rank == 1 then digit 10 else unit rank in
      let each : each_may_precede (first ∷ marks_of others) ≡ true =
      and-right (starts_with_digit (first ∷ marks_of others)) _ h in
      one-far (pairs (c ∷ others)) (cut-far (char_set_contains (codes "点點") c)
      (pair_at c others ++ pairs others)
      (list_all-append is_far (pair_at c others) (pairs others)
      ∙ both _ _ (no-pair-far c others is_d)
      (all-far others (and-right (may_precede first (marks_of others)) _ each))))
  by None None is_d is_r h = cc
