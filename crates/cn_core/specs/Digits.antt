-- The number that digits write, from the greatest place down.
use Rattle.std.specs.Prelude.{ℕ, ◌+◌, ◌*◌, List, fold}

-- the number that digits write after those of another number: 3514 of 35 and 1, 4
abbrev pub value_after : ℕ → List ℕ → ℕ
value_after number digits = fold (λ number digit. number * 10 + digit) number digits

-- the number that digits write
abbrev pub value_of : List ℕ → ℕ
value_of digits = value_after 0 digits
