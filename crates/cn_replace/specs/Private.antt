-- What contracts of private functions cite.
use Rattle.std.specs.Prelude.{◌≡◌, ℕ, Bool, true, false, List, ◌++◌, chars, Option, Some, None}

-- a text ends with this one
pub record IsEnd (text rest : List ℕ) : Type 0 where
  pub front : List ℕ
  pub parts : chars text ≡ front ++ chars rest

-- if there is a text, it was written, and the flag is true; if there is none, the flag is false,
-- and it is not known what was written
abbrev pub PutsText : {S : Type 0} → (S → S → List ℕ → Type 0) → S → S → Option (List ℕ) → Bool
    → Type 0
PutsText took old new (Some text) is_there = (is_there ≡ true) × took old new text
PutsText took old new None is_there = is_there ≡ false
