-- The whole number that a numerator over a denominator equals.
use Rattle.std.proofs.Common.{◌≡◌, ◌↔◌, ℕ, zero, suc, ◌*◌, ◌/◌, ◌%◌, ◌<◌, ◌≤◌, ℤ, pos, negsuc, ◌*ℤ◌, neg_ℤ, nat_abs, int_lt, true, false, Option, Some, None, IfSome, IsSome, IsTrue, MatchOption, refl, sym, ap, subst, ◌∙◌, arith}
use Rattle.std.proofs.lemmas.Bool.Decides.{nat_tests}
use Rattle.std.proofs.lemmas.Int.{ints}
use Rattle.std.proofs.Math.Nat.{mul-mod_left, mul-div_cancel, div-add-mod'}
use Rattle.cn_core.specs.Whole.{Kind, holds, signed_number}
use Rattle.cn_quantity.specs.Whole.{IsTimes}

not-below : (m : ℕ) → int_lt (pos m) (pos 0) ≡ false
not-below m = grind (arith, ints, nat_tests)

-- a remainder of 0
pub quotient-times : (m d : ℕ) → m % d ≡ 0 → m ≡ m / d * d
quotient-times m d none = let h = div-add-mod' m d in omega (arith, h, none)

-- the number times the denominator
pub whole-exact : (z : ℤ) (d q : ℕ) → nat_abs z ≡ q * d
    → z ≡ signed_number (int_lt z (pos 0)) q *ℤ pos d
whole-exact (pos m) d q e = rw (not-below m) (ap pos e)
whole-exact (negsuc m) d zero e = absurd (omega (arith, e))
whole-exact (negsuc m) d (suc p) e = ap (λ n. neg_ℤ (pos n)) e

abs-neg : (n : ℕ) → nat_abs (neg_ℤ (pos n)) ≡ n
abs-neg zero = refl
abs-neg (suc n) = refl

abs-times : (n : ℤ) (d : ℕ) → nat_abs (n *ℤ pos d) ≡ nat_abs n * d
abs-times (pos a) d = refl
abs-times (negsuc a) d = abs-neg (suc a * d)

below-zero : (n : ℕ) → 0 < n → int_lt (neg_ℤ (pos n)) (pos 0) ≡ true
below-zero zero h = absurd (omega (arith, h))
below-zero (suc n) h = refl

-- and no other number equals the quantity
pub whole-one : (z n : ℤ) (d q : ℕ) → 0 < d → nat_abs z ≡ q * d → z ≡ n *ℤ pos d
    → n ≡ signed_number (int_lt z (pos 0)) q
whole-one z n d q some e is =
    let size : nat_abs n ≡ q =
    sym (mul-div_cancel (nat_abs n) some)
    ∙ ap (λ m. m / d) (sym (abs-times n d) ∙ ap nat_abs (sym is) ∙ e)
    ∙ mul-div_cancel q some in
    by n is size where
      by : (n : ℤ) → z ≡ n *ℤ pos d → nat_abs n ≡ q → n ≡ signed_number (int_lt z (pos 0)) q
      by (pos a) is size = rw (is, not-below (a * d), ← size) refl
      by (negsuc a) is size =
          let many : 0 < suc a * d = omega (arith, some) in
          rw (is, below-zero (suc a * d) many, ← size) refl

-- a numerator that equals a number times the denominator leaves no remainder
pub whole-none : (z n : ℤ) (d : ℕ) → z ≡ n *ℤ pos d → nat_abs z % d ≡ 0
whole-none z n d is =
    ap (λ z. nat_abs z % d) is ∙ ap (λ m. m % d) (abs-times n d) ∙ mul-mod_left (nat_abs n) d

-- so the answer is the quotient, if the type holds it
pub whole-answer : {A : Type 0} (kind : Kind) (number : A → ℤ) (z : ℤ) (d m : ℕ)
    (found : Option A) → 0 < d → m ≡ nat_abs z → m % d ≤ 0
    → IfSome found (λ x. number x ≡ signed_number (int_lt z (pos 0)) (m / d))
    → IsSome found ↔ IsTrue (holds kind (signed_number (int_lt z (pos 0)) (m / d)))
    → MatchOption found ((n : ℤ) → IsTimes z d n → ¬ IsTrue (holds kind n))
    (λ x. IsTimes z d (number x))
whole-answer {A = A} kind number z d m found some size none value held = by found value held where
  exact : nat_abs z ≡ m / d * d
  exact = sym size ∙ quotient-times m d (omega (arith, none))

  by : (found : Option A) → IfSome found (λ x. number x ≡ signed_number (int_lt z (pos 0)) (m / d))
      → IsSome found ↔ IsTrue (holds kind (signed_number (int_lt z (pos 0)) (m / d)))
      → MatchOption found ((n : ℤ) → IsTimes z d n → ¬ IsTrue (holds kind n))
      (λ x. IsTimes z d (number x))
  by (Some x) value held = record {
    above = some;
    exact = whole-exact z d (m / d) exact ∙ ap (λ n. n *ℤ pos d) (sym value);
  }
  by None value held = λ n times within.
      let same = whole-one z n d (m / d) some exact times.exact in
      let bad = held.1 (subst (λ n. IsTrue (holds kind n)) same within) in cc
