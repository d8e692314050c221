-- The pieces that a reader of plain digits splits a text into.
use Rattle.std.specs.Prelude.{◌≡◌, ◌≢◌, ℕ, ◌+◌, ◌*◌, ◌<◌, true, false, List, ◌∷◌, chars}
use Rattle.std.specs.Char.{is_whitespace}
use Rattle.cn_core.specs.Mark.{digit, mark_of}
use Rattle.cn_judge.specs.declared.naive.Piece.{Piece}
use Rattle.cn_judge.specs.declared.naive.Piece.TheVariants.{Digits, White, Wrong}

-- the first text is some digits and then the second text; the three numbers are how many digits
-- these are, 10 to the power of that, and the number that the digits write
pub data IsDigitRun (bytes : List ℕ) : List ℕ → ℕ → ℕ → ℕ → Type 0 where
  no_digit : IsDigitRun bytes bytes 0 1 0
  one_more : (ahead after : List ℕ) (c next count weight value : ℕ)
      → IsDigitRun bytes ahead count weight value → chars ahead ≡ c ∷ chars after
      → digit next ≡ mark_of c → IsDigitRun bytes after (count + 1) (weight * 10) (value * 10 + next)

-- the piece is this one character: a digit, white space, or neither
abbrev pub IsPiece : Piece → ℕ → Type 0
IsPiece (Digits run) c = (digit run.value ≡ mark_of c) × (run.count ≡ 1) × (run.weight ≡ 10)
IsPiece White c = is_whitespace c ≡ true
IsPiece Wrong c = (is_whitespace c ≡ false) × ((value : ℕ) → mark_of c ≢ digit value)

-- the text starts with this piece: with one or more digits, or with a character that is white space
-- or neither
abbrev pub StartsWith : Piece → List ℕ → List ℕ → Type 0
StartsWith (Digits run) bytes rest =
    (0 < run.count) × IsDigitRun bytes rest run.count run.weight run.value
StartsWith piece bytes rest = (c : ℕ) × (chars bytes ≡ c ∷ chars rest) × IsPiece piece c

-- the number of characters in the piece
abbrev pub piece_len : Piece → ℕ
piece_len (Digits run) = run.count
piece_len piece = 1
