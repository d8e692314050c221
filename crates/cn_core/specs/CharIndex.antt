-- The index, in the string that the caller passed, of the character at a place of the text.
use Rattle.std.specs.Prelude.{ℕ, zero, suc, List, [], ◌∷◌, chars, if◌then◌else◌}
use Rattle.std.specs.Char.{is_whitespace}

-- the number of these characters before the one that is not white space and has exactly `place`
-- characters that are not white space before it; the length of the list if there is none. In ␠一␠二
-- the character at place 1 is 二, and its index is 3
abbrev pub char_index_among : List ℕ → ℕ → ℕ
char_index_among [] place = 0
char_index_among (c ∷ rest) zero = if is_whitespace c then suc (char_index_among rest zero) else 0
char_index_among (c ∷ rest) (suc place) =
    suc (char_index_among rest (if is_whitespace c then suc place else place))

-- `char_index_among` for the characters of a string, given by its bytes
abbrev pub char_index_of : List ℕ → ℕ → ℕ
char_index_of bytes place = char_index_among (chars bytes) place
