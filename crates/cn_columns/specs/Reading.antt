-- What is read from the rows of a column.
use Rattle.std.specs.Prelude.{◌≡◌, ℕ, ◌+◌, ◌-◌, nat_le, ◌&&◌, min, Bool, true, false, List, [], ◌∷◌, ◌++◌, length, map, drop, slice_index, slice_range, Option, Some, None, if◌then◌else◌}
use Rattle.cn_columns.specs.Bitmaps.{is_present}

-- the bytes between two offsets, if they are those of a text
abbrev pub text_between : List ℕ → ℕ → ℕ → Option (List ℕ)
text_between texts start end =
    if nat_le start end && nat_le end (length texts) then Some (slice_range texts start end)
    else None

-- whether a status and a value are the answer for a row, given its text: what the call answers for
-- the text; but a row that is missing, or has no text, has this value, and a status that says so
abbrev pub IsRowRead : {V : Type 0} → (List ℕ → ℕ → V → Type 0) → Option (List ℕ) → Bool
    → V → ℕ → ℕ → ℕ → V → Type 0
IsRowRead is_answer text false nothing missing outside status value =
    (status ≡ missing) × (value ≡ nothing)
IsRowRead is_answer None true nothing missing outside status value =
    (status ≡ outside) × (value ≡ nothing)
IsRowRead is_answer (Some text) true nothing missing outside status value =
    is_answer text status value

-- what a reader answers for a row
pub record Answer (V : Type 0) : Type 0 where
  pub status : ℕ
  pub value : V

-- whether this is the answer for the row with this index
abbrev pub IsColumnRowRead : {V : Type 0} → (List ℕ → ℕ → V → Type 0) → List ℕ → List ℕ → List ℕ
    → ℕ → V → ℕ → ℕ → ℕ → Answer V → Type 0
IsColumnRowRead is_answer texts offsets bitmap first nothing missing outside row answer =
    IsRowRead is_answer (text_between texts (slice_index offsets row) (slice_index offsets (row + 1)))
    (is_present bitmap (first + row)) nothing missing outside answer.status answer.value

-- this holds of each of these, from this index on
abbrev pub EachRow : {V : Type 0} → (ℕ → Answer V → Type 0) → ℕ → List (Answer V) → Type 0
EachRow holds row [] = Unit {0}
EachRow holds row (first ∷ rest) = holds row first × EachRow holds (row + 1) rest

-- the answer for each row is written to the arrays, and nothing else; there are as many rows as
-- the shortest of the arrays has
pub record IsRead {V : Type 0} (is_answer : List ℕ → ℕ → V → Type 0) (texts offsets bitmap : List ℕ)
    (first : ℕ) (nothing : V) (missing outside : ℕ) (old : List V) (old_statuses : List ℕ)
    (new : List V) (statuses : List ℕ) : Type 0 where
  pub answers : List (Answer V)
  pub all : length answers ≡ min (length old) (min (length offsets - 1) (length old_statuses))
  pub each : EachRow (IsColumnRowRead is_answer texts offsets bitmap first nothing missing outside) 0 answers
  pub values : new ≡ map (λ answer. answer.value) answers ++ drop (length answers) old
  pub answered_statuses : statuses
      ≡ map (λ answer. answer.status) answers ++ drop (length answers) old_statuses
