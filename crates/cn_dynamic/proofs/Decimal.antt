-- Appending decimal digits never makes the number smaller.
use Rattle.std.proofs.Common.{◌≤◌, ◌+◌, ◌-◌, ◌*◌, ℕ, List, [], ◌∷◌, arith}
use Rattle.cn_dynamic.specs.Decimal.{value_after}

pub value_after-grows : (start : ℕ) (digits : List ℕ) → start ≤ value_after start digits
value_after-grows start [] = omega arith
value_after-grows start (digit ∷ digits) =
    omega (arith, value_after-grows (start * 10 + (digit - 48)) digits)
