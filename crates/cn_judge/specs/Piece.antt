-- Suffixes and pieces of a string, and the number of characters before them.
use Rattle.std.specs.Prelude.{◌≡◌, ℕ, ◌+◌, false, List, [], ◌∷◌, ◌++◌, length, filter, chars, Result, Err}
use Rattle.std.specs.Char.{is_whitespace, is_not_whitespace}
use Rattle.cn_core.specs.Refusal.{Refusal, incorrect_at}
use Rattle.cn_core.specs.CharIndex.{char_index_of}

-- the characters `ahead` are a suffix of the string, after `index` characters, of which `place` are
-- not white space
pub record StandsAt (bytes ahead : List ℕ) (index place : ℕ) : Type 0 where
  pub front : List ℕ
  pub parts : chars bytes ≡ front ++ ahead
  pub index_is : length front ≡ index
  pub place_is : length (filter is_not_whitespace front) ≡ place

-- the last character of the string that is not white space is `c`, and `before` is the text before
-- it
pub record EndsWith (bytes : List ℕ) (c : ℕ) (before : List ℕ) : Type 0 where
  pub white : List ℕ
  pub parts : chars bytes ≡ chars before ++ c ∷ white
  pub blank : filter is_not_whitespace white ≡ []
  pub dark : is_whitespace c ≡ false

-- the answer to a piece of a string, given the number of characters of the string before the piece:
-- its place becomes a char_index of the string
abbrev pub answer_at : {T : Type 0} → ℕ → List ℕ → Result T Refusal → Result T Refusal
answer_at skipped bytes (Err (incorrect_at place)) =
    Err (incorrect_at (skipped + char_index_of bytes place))
answer_at skipped bytes answer = answer
