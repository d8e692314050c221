-- What is written to a buffer.
use Rattle.std.specs.Prelude.{◌≡◌, ℕ, ◌+◌, ◌-◌, ◌^◌, ◌≤◌, min, nat_le, List, ◌++◌, length, take, drop}
use Rattle.std.specs.Bool.{MatchBool}
use Rattle.cn_core.specs.declared.buffer.Buffer.{Buffer}
use Rattle.cn_core.specs.declared.end_buffer.EndBuffer.{EndBuffer}

-- a prefix of a text is at the start of a buffer, and all other bytes are unchanged
abbrev pub PutsPrefix : List ℕ → List ℕ → List ℕ → Type 0
PutsPrefix text old new =
    (kept : ℕ) × (kept ≤ length text) × (new ≡ take kept text ++ drop kept old)

-- this is the text in a buffer that was `start` when nothing was written: all of it if it fits, and
-- otherwise a prefix. It is counted up to the greatest count
pub record HasText (start : Buffer) (text : List ℕ) (buffer : Buffer) : Type 0 where
  pub lender : buffer.bytes.ghost_name ≡ start.bytes.ghost_name
  pub size : length buffer.bytes.now ≡ length start.bytes.now
  pub count : buffer.count ≡ min (length text) (2 ^ 64 - 1)
  pub prefix : PutsPrefix text start.bytes.now buffer.bytes.now
  pub fits : length text ≤ length start.bytes.now
      → buffer.bytes.now ≡ text ++ drop (length text) start.bytes.now

-- `new` is `old` with these bytes after the text
unfoldable pub Appends : Buffer → Buffer → List ℕ → Type 0
Appends old new more =
    (start : Buffer) → (text : List ℕ) → HasText start text old → HasText start (text ++ more) new

-- bytes are written after the first `from` ones if they fit, and counted up to the greatest count
abbrev pub PutsIfTheyFit : ℕ → List ℕ → ℕ → List ℕ → List ℕ → Type 0
PutsIfTheyFit from old end new more =
    (end ≡ min (from + length more) (2 ^ 64 - 1))
    × MatchBool (nat_le (from + length more) (length old))
    (new ≡ take from old ++ (more ++ drop (from + length more) old)) (new ≡ old)

-- these bytes are the text in a buffer if it fits
abbrev pub IsTextOf : Buffer → List ℕ → Type 0
IsTextOf buffer bytes =
    (start : Buffer) → (text : List ℕ)
    → HasText start text buffer → length text ≤ length start.bytes.now → bytes ≡ text

-- the text in a buffer that is filled from its end
abbrev pub text_at_end : EndBuffer → List ℕ
text_at_end buffer = drop buffer.free buffer.bytes.now

-- `new` is `old` with these bytes written before the text
pub record Prepends (old new : EndBuffer) (more : List ℕ) : Type 0 where
  pub size : length new.bytes.now ≡ length old.bytes.now
  pub free : new.free + length more ≡ old.free
  pub text : text_at_end new ≡ more ++ text_at_end old
