-- Which rows of a column are present.
use Rattle.std.specs.Prelude.{ℕ, ◌/◌, ◌%◌, ◌^◌, ◌==◌, Bool, true, List, Option, Some, None, slice_get}

-- a bit of a byte, from the least one on
abbrev pub bit_of : ℕ → ℕ → Bool
bit_of byte bit = byte / 2 ^ bit % 2 == 1

-- a bit of a byte, if there is one; all are 1 where there is none
abbrev pub bit_if : Option ℕ → ℕ → Bool
bit_if (Some byte) bit = bit_of byte bit
bit_if None bit = true

-- whether the row of a bit is present; a row beyond the bitmap is
abbrev pub is_present : List ℕ → ℕ → Bool
is_present bitmap bit = bit_if (slice_get bitmap (bit / 8)) (bit % 8)
