-- Digits after a decimal point.
use Rattle.std.specs.Prelude.{ℕ, zero, suc, ◌/◌, ◌%◌, ◌^◌, List, [], ◌∷◌, map}

-- the last `count` decimal digits of a number: for 5 and two of them, 0 and 5
abbrev pub last_digits : ℕ → ℕ → List ℕ
last_digits zero number = []
last_digits (suc count) number = number / 10 ^ count % 10 ∷ last_digits count number

-- a point and the last `count` digits of a number, each as its character; empty if `count` is 0
abbrev pub behind_point : ℕ → (ℕ → ℕ) → ℕ → ℕ → List ℕ
behind_point point character zero number = []
behind_point point character (suc count) number =
    point ∷ map character (last_digits (suc count) number)
