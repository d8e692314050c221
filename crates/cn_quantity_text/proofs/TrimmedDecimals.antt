-- A quantity without the zeros at the end of its decimals fits, and has the other decimals.
use Rattle.std.proofs.Common.{◌≡◌, ℕ, ◌-◌, ◌/◌, ◌^◌, ◌<◌, pos, int_lt, nat_abs, Bool, true, false, Some, refl, sym, ap, ◌∙◌, arith}
use Rattle.std.proofs.Math.Nat.{div-le_self}
use Rattle.cn_core.specs.Reading.{is_minus}
use Rattle.cn_core.specs.Whole.{holds, signed_kind, signed_number}
use Rattle.cn_quantity.specs.declared.quantity.Quantity.{Quantity}
use Rattle.cn_quantity.specs.Trimmed.{decimals_of, without_zeros, zeros_at_end}
use Rattle.cn_quantity.proofs.DroppedZeros.{IsCut-zeros, decimals-left}
use Rattle.cn_spell.proofs.SignedNumbers.{held-smaller, written_sign}

-- the remaining quantity fits, and has these decimals
pub record IsTrimmed (q : Quantity) (decimals : ℕ) : Type 0 where
  pub held : holds (signed_kind 128) q.numerator ≡ true
  pub fits : q.denominator < 2 ^ 128
  pub is : decimals_of q ≡ Some decimals

pub IsTrimmed-left : (q : Quantity) (decimals : ℕ) → holds (signed_kind 128) q.numerator ≡ true
    → q.denominator < 2 ^ 128 → decimals_of q ≡ Some decimals
    → let dropped = zeros_at_end decimals (nat_abs q.numerator) in
    IsTrimmed (without_zeros q decimals dropped) (decimals - dropped)
IsTrimmed-left q decimals held fits is =
    let dropped = zeros_at_end decimals (nat_abs q.numerator) in
    let negative = int_lt q.numerator (pos 0) in
    let number = nat_abs q.numerator / 10 ^ dropped in record {
      held = ap (λ b. holds (signed_kind 128) (signed_number b number)) (sym (sign-is negative))
          ∙ held-smaller (signed_kind 128) q.numerator number refl held
          (div-le_self (nat_abs q.numerator) (10 ^ dropped));
      fits = omega (arith, fits, div-le_self q.denominator (10 ^ dropped));
      is = decimals-left q.form q.denominator decimals dropped is
          (IsCut-zeros decimals (nat_abs q.numerator)).few;
    } where
      sign-is : (negative : Bool) → is_minus (written_sign negative) ≡ negative
      sign-is true = refl
      sign-is false = refl
