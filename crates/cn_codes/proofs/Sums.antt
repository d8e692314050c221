-- The number of digits is at least that of those before them.
use Rattle.std.proofs.Common.{◌≡◌, ℕ, ◌+◌, ◌*◌, ◌<◌, ◌≤◌, nat_le, false, List, [], ◌∷◌, sym, arith}
use Rattle.std.proofs.lemmas.Bool.{lt-leb}
use Rattle.cn_codes.specs.Digits.{number_from, value_of}

pub number-above : (value : ℕ) (digits : List ℕ) → value ≤ number_from value digits
number-above value [] = omega arith
number-above value (c ∷ digits) =
    omega (arith, number-above (10 * value + value_of c) digits)

-- digits whose first ones are a number above another one
pub too-great : (most value all : ℕ) (digits : List ℕ) → all ≡ number_from value digits
    → most < value → false ≡ nat_le all most
too-great most value all digits same great =
    sym (lt-leb all most (omega (arith, number-above value digits, same, great)))
