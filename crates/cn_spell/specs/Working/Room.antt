-- A buffer that is filled from its end.
use Rattle.std.specs.Prelude.{◌≡◌, ℕ, ◌+◌, ◌*◌, List, length, drop, encode_utf8_all}
use Rattle.std.specs.Str.{IsUtf8}

-- the bytes after the first `free` ones are these characters, of three bytes each, and nothing else
pub record Shows (free : ℕ) (bytes characters : List ℕ) : Type 0 where
  pub text : drop free bytes ≡ encode_utf8_all characters
  pub utf8 : IsUtf8 (drop free bytes)
  pub size : free + 3 * length characters ≡ length bytes

-- `count` is the number of these characters, and each is three bytes long
pub record Counts (count : ℕ) (characters : List ℕ) : Type 0 where
  pub size : count ≡ length characters
  pub bytes : length (encode_utf8_all characters) ≡ 3 * length characters
