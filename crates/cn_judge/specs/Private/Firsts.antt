-- The bytes at which characters begin.
use Rattle.std.specs.Prelude.{◌≡◌, ℕ, zero, suc, ◌+◌, ◌/◌, ◌≤◌, List, length, get_or, nat_eq, if◌then◌else◌}

-- 0 for a byte that continues a character, which is from 0x80 to 0xBF, and 1 for any other
abbrev pub first_count : ℕ → ℕ
first_count byte = if nat_eq (byte / 64) 2 then 0 else 1

-- the number of characters that begin before the byte at an index
unfoldable pub firsts : List ℕ → ℕ → ℕ
firsts bytes zero = 0
firsts bytes (suc at) = firsts bytes at + first_count (get_or bytes at 0)

-- of `many` characters, `left` do not begin before `place`
pub record PassesFirsts (bytes : List ℕ) (many place left : ℕ) : Type 0 where
  pub within : place ≤ length bytes
  pub counted : firsts bytes place + left ≡ many
