-- A stack that is stored in an array.
use Rattle.std.specs.Prelude.{ℕ, zero, suc, List, [], ◌∷◌, slice_index_or}

-- the meanings of the first `len` entries of an array, the last of them first; `none` is the entry
-- that is read past the end of the array
abbrev pub stacked : {Entry Meaning : Type 0} → (Entry → Meaning) → Entry → List Entry → ℕ
    → List Meaning
stacked meaning none entries zero = []
stacked meaning none entries (suc len) =
    meaning (slice_index_or entries len none) ∷ stacked meaning none entries len
