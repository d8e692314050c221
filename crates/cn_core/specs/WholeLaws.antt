-- Facts about every integer type. `farthest` and `IsWholeType` are definitions; the rest are
-- proofs, which no contract depends on. They are in `specs` because the code of a trait cannot cite
-- `proofs`.
use Rattle.std.proofs.Common.{◌≡◌, ◌↔◌, ℕ, ◌^◌, ◌<◌, ◌≤◌, max, nat_le, nat_lt, ℤ, pos, negsuc, nat_abs, Bool, true, false, if◌then◌else◌, refl, sym, ap, ◌∙◌, arith}
use Rattle.std.proofs.lemmas.Bool.Decides.{nat_tests}
use Rattle.std.proofs.lemmas.Int.{ints}
use Rattle.cn_core.specs.Whole.{Kind, unsigned_kind, holds}

-- the greatest magnitude that a type of this kind holds: 128 for `i8`, 255 for `u8`
abbrev pub farthest : Kind → ℕ
farthest kind = max (nat_abs kind.least) (nat_abs kind.greatest)

-- The facts that each type shows by computation: its sign; that it holds 0, and starts there if it
-- is unsigned; whether no magnitude is above 65535; and that its magnitudes fit 128 bits.
pub record IsWholeType (signed narrow : Bool) (kind : Kind) : Type 0 where
  pub sign : kind.signed ≡ signed
  pub zero : holds kind (pos 0) ≡ true
  pub low : (if signed then pos 0 else kind.least) ≡ pos 0
  pub width : narrow ≡ nat_le (farthest kind) 65535
  pub fits : nat_lt (farthest kind) (2 ^ 128) ≡ true

pub from-zero : (signed narrow : Bool) (kind : Kind) → IsWholeType signed narrow kind
    → signed ≡ false → kind.least ≡ pos 0
from-zero signed narrow kind h e =
    ap (λ (s : Bool). if s then pos 0 else kind.least) (sym e) ∙ h.low

-- no number of a type has a greater magnitude than the farthest
within : (kind : Kind) (z : ℤ) → holds kind z ≡ true → nat_abs z ≤ farthest kind
within kind z h = grind (arith, ints, nat_tests, h)

pub narrow-magnitudes : (signed narrow : Bool) (kind : Kind) → IsWholeType signed narrow kind
    → narrow ≡ true ↔ ((z : ℤ) → holds kind z ≡ true → nat_abs z ≤ 65535)
narrow-magnitudes signed narrow kind h = (few, many) where
  few : narrow ≡ true → (z : ℤ) → holds kind z ≡ true → nat_abs z ≤ 65535
  few e z held = grind (arith, nat_tests, h.width, within kind z held)

  many : ((z : ℤ) → holds kind z ≡ true → nat_abs z ≤ 65535) → narrow ≡ true
  many small =
      let low = small kind.least (grind (arith, ints, h.zero)) in
      let high = small kind.greatest (grind (arith, ints, h.zero)) in
      grind (arith, nat_tests, h.width, low, high)

pub magnitude-fits : (signed narrow : Bool) (kind : Kind) → IsWholeType signed narrow kind
    → (z : ℤ) → holds kind z ≡ true → nat_abs z < 2 ^ 128
magnitude-fits signed narrow kind h z held =
    grind (arith, nat_tests, h.fits, within kind z held)

-- a nonnegative number is determined by its magnitude
pub pos_same : (x y : ℕ) → pos x ≡ pos y → x ≡ y
pos_same x y e = ap nat_abs e

pub unsigned_holds : (bits : ℕ) (z : ℤ) → holds (unsigned_kind bits) z ≡ true
    → (x : ℕ) × (pos x ≡ z)
unsigned_holds bits (pos n) h = (n, refl)
unsigned_holds bits (negsuc n) h = cc
