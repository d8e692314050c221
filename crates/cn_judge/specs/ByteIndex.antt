-- The byte at which a character of a string begins.
use Rattle.std.specs.Prelude.{ℕ, List, length, take, chars, encode_utf8_all}

-- the number of bytes of the characters before the one with this char_index
abbrev pub byte_index : List ℕ → ℕ → ℕ
byte_index text char_index = length (encode_utf8_all (take char_index (chars text)))
