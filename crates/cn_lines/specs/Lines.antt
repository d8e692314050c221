-- The lines of a sequence of bytes: each line feed, byte 10, ends a line.
use Rattle.std.specs.Prelude.{◌≢◌, ◌==◌, ◌++◌, ℕ, List, [], ◌∷◌, if◌then◌else◌}
use Rattle.std.specs.List.{AllByRecursion}

-- no byte is a line feed
abbrev pub HasNoFeed : List ℕ → Type 0
HasNoFeed bytes = AllByRecursion (λ byte. byte ≢ 10) bytes

-- the lines with a byte added at the start of the first one; no lines stay no lines
abbrev pub onto_first : ℕ → List (List ℕ) → List (List ℕ)
onto_first byte [] = []
onto_first byte (line ∷ lines) = (byte ∷ line) ∷ lines

-- the lines that end with a line feed, without it
unfoldable pub ended : List ℕ → List (List ℕ)
ended [] = []
ended (byte ∷ bytes) = if byte == 10 then [] ∷ ended bytes else onto_first byte (ended bytes)

-- the rest after these lines, with a byte added before it if there are no lines
abbrev pub onto_rest : ℕ → List (List ℕ) → List ℕ → List ℕ
onto_rest byte [] rest = byte ∷ rest
onto_rest byte (line ∷ lines) rest = rest

-- the bytes after the last line feed
unfoldable pub unended : List ℕ → List ℕ
unended [] = []
unended (byte ∷ bytes) =
    if byte == 10 then unended bytes else onto_rest byte (ended bytes) (unended bytes)

-- a last line, if it has at least one byte
abbrev pub last_line : List ℕ → List (List ℕ)
last_line [] = []
last_line (byte ∷ bytes) = (byte ∷ bytes) ∷ []

-- the lines; the bytes after the last line feed are a line if there are any
unfoldable pub lines : List ℕ → List (List ℕ)
lines bytes = ended bytes ++ last_line (unended bytes)
