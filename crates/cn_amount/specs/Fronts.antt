-- The first character of a text.
use Rattle.std.specs.Prelude.{ℕ, Bool, false, List, [], ◌∷◌, if◌then◌else◌}
use Rattle.std.specs.Char.{char_set_contains}

-- the text begins with one of these characters
abbrev pub begins_with : List ℕ → List ℕ → Bool
begins_with set [] = false
begins_with set (c ∷ rest) = char_set_contains set c

-- the text without its first character, if that is one of these
abbrev pub without_front : List ℕ → List ℕ → List ℕ
without_front set [] = []
without_front set (c ∷ rest) = if char_set_contains set c then rest else c ∷ rest
