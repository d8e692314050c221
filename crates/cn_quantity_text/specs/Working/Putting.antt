-- What is written to a buffer before the text that is there.
use Rattle.std.specs.Prelude.{◌≤◌, ℕ, Bool, IsTrue, IsFalse, List, length, encode_utf8_all, Result, MatchResult}
use Rattle.cn_core.specs.declared.end_buffer.EndBuffer.{EndBuffer}
use Rattle.cn_core.specs.Buffers.{Prepends}

-- these characters are written before the text, and are at most `most` bytes
pub record PutsCharacters (old new : EndBuffer) (characters : List ℕ) (most : ℕ) : Type 0 where
  pub put : Prepends old new (encode_utf8_all characters)
  pub bound : length (encode_utf8_all characters) ≤ most

-- the result is Ok and the characters are written, or the method does not write them and the result
-- is an error
abbrev pub PutsIfWritten : {T E : Type 0} → Bool → EndBuffer → EndBuffer → List ℕ → ℕ → Result T E
    → Type 0
PutsIfWritten written old new characters most result =
    MatchResult result
    (λ _. IsTrue written × PutsCharacters old new characters most) (λ _. IsFalse written)
