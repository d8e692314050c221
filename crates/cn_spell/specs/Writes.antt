-- The contents of a printed text.
use Rattle.std.specs.Prelude.{◌≡◌, ℕ, ◌+◌, ◌*◌, ◌≤◌, List, length, encode_utf8_all, string_bytes, string_len, string_capacity}
use Rattle.std.specs.declared.string.String.{String}

-- the most bytes of plain digits, three for each character: a sign and 39 digits
abbrev pub most_plain_bytes : ℕ
most_plain_bytes = 3 * (1 + 39)

-- the text is these characters, with three bytes each, has at most `most` bytes, and holds no more
-- memory than its bytes need
pub record Writes {Z : Type 0} (characters : List ℕ) (most : ℕ) (text : String Z) : Type 0 where
  pub bytes : string_bytes text ≡ encode_utf8_all characters
  pub len : string_len text ≡ 3 * length characters
  pub bound : string_len text ≤ most
  pub capacity : string_capacity text ≡ string_len text

-- the bytes are those of these characters, and fit in 234 bytes
pub record Puts (characters bytes : List ℕ) : Type 0 where
  pub text : bytes ≡ encode_utf8_all characters
  pub bound : length bytes ≤ 234
