-- The effects of the steps of a run. No contract of a public call cites them.
use Rattle.std.specs.Prelude.{◌≡◌, ◌++◌, ℕ, true, false, List, Result, Ok, Err}
use Rattle.std.specs.Io.KnownBytes.{Appends, Keeps}
use Rattle.numeral.specs.declared.fault.RunError.{RunError}
use Rattle.numeral.specs.declared.fault.RunError.TheVariants.{Read, Write, Memory}
use Rattle.numeral.specs.Devices.{SourceState, SinkState}
use Rattle.cn_lines.specs.Lines.{ended, unended}
use Rattle.numeral.specs.Leaves.{Wrote, WroteBeginning, WroteFirst}

-- the bytes were written: all of them, or a prefix if a write failed
abbrev pub Puts : {T : Type 0} → SinkState → SinkState → List ℕ → Result T RunError → Type 0
Puts old new bytes (Ok x) = Appends old.contents new.contents bytes × (new.failed ≡ false)
Puts old new bytes (Err Read) = ⊥
Puts old new bytes (Err Write) =
    (part : List ℕ) × (rest : List ℕ)
    × (bytes ≡ part ++ rest) × Appends old.contents new.contents part × (new.failed ≡ true)
Puts old new bytes (Err Memory) = ⊥

-- with `Ok` nothing has failed, and with an error what it names has failed
abbrev pub Fails : {T : Type 0} → SourceState → SinkState → Result T RunError → Type 0
Fails source sink (Ok x) = (source.failed ≡ false) × (sink.failed ≡ false)
Fails source sink (Err Read) = (source.failed ≡ true) × (sink.failed ≡ false)
Fails source sink (Err Write) = (source.failed ≡ false) × (sink.failed ≡ true)
Fails source sink (Err Memory) = ⊥

-- the lines were answered: all of them, or a prefix of the answers if a write failed, or none if
-- memory could not be allocated
abbrev pub Replies : {T : Type 0}
    → SinkState → SinkState → List (List ℕ) → Result T RunError → Type 0
Replies old new lines (Ok x) = Wrote old new lines × (new.failed ≡ false)
Replies old new lines (Err Read) = ⊥
Replies old new lines (Err Write) = WroteBeginning old new lines × (new.failed ≡ true)
Replies old new lines (Err Memory) = Keeps old.contents new.contents × (new.failed ≡ false)

-- each line that has ended was answered, and the rest is kept
abbrev pub AnswersEnded : {T : Type 0}
    → SinkState → SinkState → List ℕ → List ℕ → Result T RunError → Type 0
AnswersEnded old new bytes kept (Ok x) =
    Wrote old new (ended bytes) × (kept ≡ unended bytes) × (new.failed ≡ false)
AnswersEnded old new bytes kept (Err Read) = ⊥
AnswersEnded old new bytes kept (Err Write) =
    WroteBeginning old new (ended bytes) × (new.failed ≡ true)
AnswersEnded old new bytes kept (Err Memory) = WroteFirst old new bytes × (new.failed ≡ false)
