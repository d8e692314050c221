-- The UTF-8 bytes of a character of two, three or four bytes.
use Rattle.std.specs.Prelude.{ℕ, ◌≤◌, ◌+◌, ◌*◌}
use Rattle.std.specs.Int.{IsInRange}

abbrev pub IsContinuation : ℕ → Type 0
IsContinuation byte = IsInRange 0x80 0xBF byte

-- the first two bytes, as one number
abbrev pub leading : ℕ → ℕ → ℕ
leading first second = first * 64 + second

abbrev pub IsTwo : ℕ → ℕ → Type 0
IsTwo first second = IsInRange 0xC2 0xDF first × IsContinuation second

-- a character from U+0800 to U+FFFF that is not a surrogate
abbrev pub IsThree : ℕ → ℕ → ℕ → Type 0
IsThree first second third = IsInRange 0xE0 0xEF first × IsContinuation second × IsContinuation third
    × (leading 0xE0 0xA0 ≤ leading first second)
    × (leading 0xED 0xA0 ≤ leading first second → leading 0xEE 0x80 ≤ leading first second)

-- a character from U+10000 to U+10FFFF
abbrev pub IsFour : ℕ → ℕ → ℕ → ℕ → Type 0
IsFour first second third fourth = IsContinuation second × IsContinuation third × IsContinuation fourth
    × IsInRange (leading 0xF0 0x90) (leading 0xF4 0x8F) (leading first second)
