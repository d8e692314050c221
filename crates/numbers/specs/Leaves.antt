-- What a search leaves, by its result: `input` is what its reader was to give, `left` what it still
-- has, `old` what its writer held before, and `new` what it holds after.
use Rattle.std.specs.Prelude.{◌≡◌, ◌++◌, List, [], ℕ, Option, Some, Result, Ok, Err}
use Rattle.std.specs.Io.{StopsAt}
use Rattle.std.specs.Io.KnownBytes.{Appends, Consumes}
use Rattle.numbers.specs.declared.fault.RunError.{RunError}
use Rattle.numbers.specs.declared.fault.RunError.TheVariants.{Read, Write, Memory}
use Rattle.numbers.specs.declared.options.Search.{Search}
use Rattle.numbers.specs.Answers.{AnswersFirst}

-- all answers to the lines before the rest were written, and nothing else
abbrev pub Wrote : Search → List ℕ → List ℕ → Option (List ℕ) → Option (List ℕ) → Type 0
Wrote search input rest old new =
    (written : List ℕ) × AnswersFirst search input rest written × Appends old new written

-- a prefix of these answers was written
abbrev pub WroteBeginning : Search → List ℕ → List ℕ → Option (List ℕ) → Option (List ℕ) → Type 0
WroteBeginning search input rest old new =
    (written : List ℕ) × (unwritten : List ℕ)
    × AnswersFirst search input rest (written ++ unwritten) × Appends old new written

-- of the rest no more than one line was read
abbrev pub ReadWithinLine : List ℕ → Option (List ℕ) → Type 0
ReadWithinLine rest left = (bytes : List ℕ) × StopsAt bytes 10 × Consumes (Some rest) left bytes

-- everything was read and answered; or a write failed, and a prefix of the answers to the lines
-- read was written; or else a read failed or memory ran out, and the lines before the current one
-- were answered
abbrev pub Leaves : {T : Type 0} → Search → List ℕ → Option (List ℕ) → Option (List ℕ)
    → Option (List ℕ) → Result T RunError → Type 0
Leaves search input left old new (Ok x) = (left ≡ Some []) × Wrote search input [] old new
Leaves search input left old new (Err Read) =
    (rest : List ℕ) × ReadWithinLine rest left × Wrote search input rest old new
Leaves search input left old new (Err Write) =
    (rest : List ℕ) × (left ≡ Some rest) × WroteBeginning search input rest old new
Leaves search input left old new (Err Memory) =
    (rest : List ℕ) × ReadWithinLine rest left × Wrote search input rest old new
