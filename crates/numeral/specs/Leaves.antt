-- The effects of a run, by its result. `old` is the state of a source or a sink before the run, and
-- `new` is the state after it.
use Rattle.std.specs.Prelude.{◌≡◌, ◌<◌, ◌++◌, ◌||◌, ℕ, Bool, true, false, List, length, take, ◌⊎◌, Result, Ok, Err}
use Rattle.std.specs.Io.KnownBytes.{Appends, Consumes, IsAtEnd}
use Rattle.numeral.specs.declared.fault.RunError.{RunError}
use Rattle.numeral.specs.declared.fault.RunError.TheVariants.{Read, Write, Memory}
use Rattle.numeral.specs.Devices.{SourceState, SinkState, next_count}
use Rattle.cn_lines.specs.Lines.{ended, lines}
use Rattle.cn_lines.specs.Answer.{AreReplies}

-- the answers to these lines were written, each followed by a line feed, and nothing else
abbrev pub Wrote : SinkState → SinkState → List (List ℕ) → Type 0
Wrote old new lines =
    (bytes : List ℕ) × AreReplies lines bytes × Appends old.contents new.contents bytes

-- a prefix of these answers was written
abbrev pub WroteBeginning : SinkState → SinkState → List (List ℕ) → Type 0
WroteBeginning old new lines =
    (part : List ℕ) × (rest : List ℕ)
    × AreReplies lines (part ++ rest) × Appends old.contents new.contents part

-- the answers to the first lines of these bytes were written, and there is at least one more line
abbrev pub WroteFirst : SinkState → SinkState → List ℕ → Type 0
WroteFirst old new bytes =
    (k : ℕ) × (k < length (lines bytes)) × Wrote old new (take k (lines bytes))

-- the effects of a run that has read these bytes
abbrev pub Leaves : {T : Type 0}
    → SourceState → SinkState → SinkState → List ℕ → Result T RunError → Type 0
Leaves source old new bytes (Ok x) =
    IsAtEnd source.remaining × Wrote old new (lines bytes)
    × (source.failed ≡ false) × (new.failed ≡ false)
Leaves source old new bytes (Err Read) =
    Wrote old new (ended bytes) × (source.failed ≡ true) × (new.failed ≡ false)
Leaves source old new bytes (Err Write) =
    (WroteBeginning old new (ended bytes)
    ⊎ (IsAtEnd source.remaining × WroteBeginning old new (lines bytes)))
    × (source.failed ≡ false) × (new.failed ≡ true)
Leaves source old new bytes (Err Memory) =
    WroteFirst old new bytes × (source.failed ≡ false) × (new.failed ≡ false)

-- the run read some bytes of the source, which was in the state `given`, and has the effects of its
-- result
abbrev pub Runs : {T : Type 0}
    → SourceState → SourceState → SinkState → SinkState → Result T RunError → Type 0
Runs given left old new result =
    (bytes : List ℕ)
    × Consumes given.remaining left.remaining bytes × Leaves left old new bytes result

-- exactly one read returned no byte, and it was the last read
abbrev pub EndedOnce : SourceState → SourceState → Type 0
EndedOnce old new = (new.empty.count ≡ next_count old.empty.count) × (new.empty.ended ≡ true)

-- no read returned no byte, or exactly one did, and it was the last read
abbrev pub EndedAtMostOnce : SourceState → SourceState → Type 0
EndedAtMostOnce old new = (new.empty.count ≡ old.empty.count) ⊎ EndedOnce old new

-- how a run stops reading: it reads again as long as a read returns a byte, and no longer
abbrev pub Stops : {T : Type 0} → SourceState → SourceState → Result T RunError → Type 0
Stops old new (Ok x) = EndedOnce old new
Stops old new (Err Read) = new.empty.count ≡ old.empty.count
Stops old new (Err Write) = EndedAtMostOnce old new
Stops old new (Err Memory) = EndedAtMostOnce old new

-- a read, a write or the last flush has failed
abbrev pub any_failed : SourceState → SinkState → Bool
any_failed source sink = source.failed || sink.failed || sink.flush_failed
