-- A definition that only contracts of private functions cite.
use Rattle.std.specs.Prelude.{ℕ, ◌^◌, ◌≤◌, ℤ, nat_abs}

-- the magnitude of the number does not fit 128 bits, so no type holds the number
abbrev pub IsBeyondAll : ℤ → Type 0
IsBeyondAll number = 2 ^ 128 ≤ nat_abs number
