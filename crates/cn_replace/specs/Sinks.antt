-- What was written to a string, by its state before and after.
use Rattle.std.specs.Prelude.{◌≡◌, ℕ, List, ◌++◌}

-- these bytes were appended to those of a string
abbrev pub AppendsTo : List ℕ → List ℕ → List ℕ → Type 0
AppendsTo old new bytes = new ≡ old ++ bytes
