-- A number that a type holds, from its written sign and its magnitude.
use Rattle.std.proofs.Common.{◌≡◌, ℕ, zero, suc, ◌≤◌, ℤ, pos, negsuc, nat_abs, int_lt, Bool, true, false, Option, Some, None, Ok, refl, arith}
use Rattle.std.proofs.lemmas.Int.{ints}
use Rattle.cn_core.specs.declared.sign.Sign.{Sign}
use Rattle.cn_core.specs.declared.sign.Sign.TheVariants.{Minus}
use Rattle.cn_core.specs.Reading.{is_minus, typed_number}
use Rattle.cn_core.specs.Whole.{Kind, holds, signed_number}

-- a number that the type holds
pub typed_number-held : (kind : Kind) (number : ℤ) → holds kind number ≡ true
    → typed_number kind number ≡ Ok number
typed_number-held kind number h = grind (arith, ints, h)

-- the sign that a number is written with: minus if it is negative, else none
abbrev pub written_sign : Bool → Option Sign
written_sign true = Some Minus
written_sign false = None

not_below_zero : (n : ℕ) → int_lt (pos n) (pos 0) ≡ false
not_below_zero n = grind (arith, ints)

pub signed_number-signed_text : (number : ℤ)
    → signed_number (is_minus (written_sign (int_lt number (pos 0)))) (nat_abs number) ≡ number
signed_number-signed_text (pos n) = rw (not_below_zero n)
signed_number-signed_text (negsuc n) = refl

-- if a type holds a number and 0, it holds each smaller magnitude with the same sign
pub held-smaller : (kind : Kind) (number : ℤ) (magnitude : ℕ) → holds kind (pos 0) ≡ true
    → holds kind number ≡ true → magnitude ≤ nat_abs number
    → holds kind (signed_number (is_minus (written_sign (int_lt number (pos 0)))) magnitude) ≡ true
held-smaller kind (pos n) magnitude none held low =
    rw (not_below_zero n) (grind (arith, ints, none, held, low))
held-smaller kind (negsuc n) zero none held low = none
held-smaller kind (negsuc n) (suc magnitude) none held low = grind (arith, ints, none, held, low)
