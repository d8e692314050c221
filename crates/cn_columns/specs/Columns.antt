-- What is written for the rows of a column.
use Rattle.std.specs.Prelude.{◌≡◌, ℕ, ◌+◌, ◌<◌, ◌≤◌, Bool, List, [], ◌∷◌, ◌++◌, length, map, take, drop, slice_index, if◌then◌else◌}
use Rattle.cn_columns.specs.Bitmaps.{is_present}

-- what a call answers for one row: its status, and its text, which is empty if the row is refused
pub record Row : Type 0 where
  pub status : ℕ
  pub text : List ℕ

-- a row if it is present, and otherwise an empty text with this status
abbrev pub row_if : Bool → ℕ → Row → Row
row_if present missing row = if present then row else record { status = missing; text = [] }

-- the rows of these values: row i is what the call answers for value i, if its bit of the bitmap
-- says that it is present; `bit` is the first row's
abbrev pub rows_of : {V : Type 0} → (V → Row) → ℕ → List ℕ → ℕ → List V → List Row
rows_of row missing bitmap bit [] = []
rows_of row missing bitmap bit (value ∷ values) =
    row_if (is_present bitmap bit) missing (row value) ∷ rows_of row missing bitmap (bit + 1) values

-- the texts of rows, one after another
abbrev pub texts : List Row → List ℕ
texts [] = []
texts (row ∷ rows) = row.text ++ texts rows

-- where the texts of rows end, if the first one begins at this byte
abbrev pub ends : ℕ → List Row → List ℕ
ends start [] = []
ends start (row ∷ rows) = (start + length row.text) ∷ ends (start + length row.text) rows

-- the arrays of a column of texts: where they begin and the last one ends, their bytes, and the
-- statuses of the rows
pub record Column : Type 0 where
  pub offsets : List ℕ
  pub bytes : List ℕ
  pub statuses : List ℕ

-- where the text of the first row begins
abbrev pub start_of : Column → ℕ
start_of column = slice_index column.offsets 0

-- where the text of the last of these rows ends, if the first begins where the column does
abbrev pub end_of : Column → List Row → ℕ
end_of column rows = start_of column + length (texts rows)

-- of these rows the first `done` are written to the arrays, and nothing else: the first that is not
-- is the first that does not fit
pub record IsPrinted (rows : List Row) (old new : Column) (done : ℕ) : Type 0 where
  pub within : done ≤ length rows
  pub fits : 0 < done → end_of old (take done rows) ≤ length old.bytes
  pub full : done < length rows → length old.bytes < end_of old (take (done + 1) rows)
  pub offsets : new.offsets
      ≡ take 1 old.offsets ++ ends (start_of old) (take done rows) ++ drop (done + 1) old.offsets
  pub bytes : new.bytes ≡ take (start_of old) old.bytes ++ texts (take done rows)
      ++ drop (end_of old (take done rows)) old.bytes
  pub statuses : new.statuses ≡ map (λ row. row.status) (take done rows) ++ drop done old.statuses
