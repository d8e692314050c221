-- The steps of a search. No contract of a public function uses these definitions.
use Rattle.std.specs.Prelude.{◌≡◌, ◌<◌, ◌++◌, ℕ, Bool, true, false, List, [], length, Option, Some, Result, Ok, Err}
use Rattle.std.specs.Io.BufRead.{drop_through, take_through}
use Rattle.std.specs.Io.KnownBytes.{Appends, Keeps}
use Rattle.numbers.specs.declared.fault.RunError.{RunError}
use Rattle.numbers.specs.declared.fault.RunError.TheVariants.{Read, Write, Memory}
use Rattle.numbers.specs.declared.options.Search.{Search}
use Rattle.numbers.specs.Answers.{AnswersLine}

-- one line was taken from what the reader still had, or there was none
abbrev pub TakesLine : Bool → List ℕ → Option (List ℕ) → List ℕ → Type 0
TakesLine true input left bytes =
    (0 < length input) × (bytes ≡ take_through 10 input) × (left ≡ Some (drop_through 10 input))
TakesLine false input left bytes = (input ≡ []) × (left ≡ Some [])

-- the bytes were written: all of them, or a prefix if a write failed
abbrev pub Puts : {T : Type 0}
    → Option (List ℕ) → Option (List ℕ) → List ℕ → Result T RunError → Type 0
Puts old new bytes (Ok x) = Appends old new bytes
Puts old new bytes (Err Read) = ⊥
Puts old new bytes (Err Write) =
    (written : List ℕ) × (unwritten : List ℕ)
    × (bytes ≡ written ++ unwritten) × Appends old new written
Puts old new bytes (Err Memory) = ⊥

-- a line was answered: as a whole, or by a prefix if a write failed, or not at all if memory ran
-- out
abbrev pub Replies : {T : Type 0} → Search → ℕ → List ℕ → Option (List ℕ) → Option (List ℕ)
    → Result T RunError → Type 0
Replies search line bytes old new (Ok x) =
    (written : List ℕ) × AnswersLine search line bytes written × Appends old new written
Replies search line bytes old new (Err Read) = ⊥
Replies search line bytes old new (Err Write) =
    (written : List ℕ) × (unwritten : List ℕ)
    × AnswersLine search line bytes (written ++ unwritten) × Appends old new written
Replies search line bytes old new (Err Memory) = Keeps old new
