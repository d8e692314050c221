-- The first or last character of a text, by its bytes.
use Rattle.std.specs.Prelude.{◌≡◌, ℕ, ◌+◌, ◌-◌, ◌*◌, ◌/◌, ◌%◌, ◌<◌, ◌≤◌, List, [], ◌∷◌, ◌++◌, length, get_or, take, drop, chars, IsCharBoundary}
use Rattle.std.specs.Char.{IsScalar}
use Rattle.cn_judge.specs.Marked.{key_of}

-- the UTF-8 of the first character is three bytes long, and `key` is its key
pub record StartsWithKey (text : List ℕ) (key : ℕ) : Type 0 where
  pub code : ℕ
  pub key_is : key_of code ≡ key
  pub sum : code + 925824 ≡ key % 256 * 4096 + key / 256 % 256 * 64 + key / 65536
  pub low : 2048 ≤ code
  pub high : code < 65536
  pub scalar : IsScalar code
  pub long : 3 ≤ length text
  pub boundary : IsCharBoundary text 3
  pub parts : chars text ≡ code ∷ chars (drop 3 text)

-- the UTF-8 of the last character is three bytes long, and `key` is its key
pub record EndsWithKey (text : List ℕ) (key : ℕ) : Type 0 where
  pub code : ℕ
  pub key_is : key_of code ≡ key
  pub sum : code + 925824 ≡ key % 256 * 4096 + key / 256 % 256 * 64 + key / 65536
  pub low : 2048 ≤ code
  pub high : code < 65536
  pub scalar : IsScalar code
  pub long : 3 ≤ length text
  pub boundary : IsCharBoundary text (length text - 3)
  pub parts : chars text ≡ chars (take (length text - 3) text) ++ code ∷ []

-- three characters of three bytes each begin at this byte, judged by the first byte of each
pub record BeginsThreeThrees (bytes : List ℕ) (at : ℕ) : Type 0 where
  pub within : at + 8 ≤ length bytes
  pub first : get_or bytes at 0 / 16 ≡ 14
  pub second : get_or bytes (at + 3) 0 / 16 ≡ 14
  pub third : get_or bytes (at + 6) 0 / 16 ≡ 14
