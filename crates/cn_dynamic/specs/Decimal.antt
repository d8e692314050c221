-- The number that decimal digits write; the digits are given as the bytes of a string.
use Rattle.std.specs.Prelude.{◌+◌, ◌-◌, ◌*◌, ℕ, List, fold}

-- the number that these decimal digits write when they are appended to those of another number
abbrev pub value_after : ℕ → List ℕ → ℕ
value_after number digits = fold (λ number digit. number * 10 + (digit - 48)) number digits

-- the number that these decimal digits write
abbrev pub value_of : List ℕ → ℕ
value_of digits = value_after 0 digits
