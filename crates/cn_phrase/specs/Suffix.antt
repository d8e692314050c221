-- Suffixes of a text.
use Rattle.std.specs.Prelude.{◌≡◌, List, ℕ, ◌++◌}

-- a text ends with another one
abbrev pub EndsWith : List ℕ → List ℕ → Type 0
EndsWith text rest = (front : List ℕ) × (text ≡ front ++ rest)
