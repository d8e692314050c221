-- What a character is read as, given by rows of characters.
use Rattle.std.specs.Prelude.{ℕ, List, [], ◌∷◌, Option, Some, None, if◌then◌else◌}
use Rattle.std.specs.Char.{char_set_contains}

-- what the first row that has the character gives; none if no row has it
abbrev pub first_with : {C : Type 0} → List (List ℕ × C) → ℕ → Option C
first_with [] c = None
first_with (row ∷ rows) c = if char_set_contains row.0 c then Some row.1 else first_with rows c
