-- The status with which the program ends.
use Rattle.std.specs.Prelude.{ℕ, Bool, true, false, Result, Ok, Err}
use Rattle.numeral.specs.declared.fault.RunError.{RunError}
use Rattle.numeral.specs.declared.fault.RunError.TheVariants.{Read, Write, Memory}

-- 2 if memory could not be allocated, 1 if a read, a write or the last flush failed, else 0
abbrev pub status_of : {T : Type 0} → Result T RunError → Bool → ℕ
status_of (Ok x) true = 0
status_of (Ok x) false = 1
status_of (Err Read) flushed = 1
status_of (Err Write) flushed = 1
status_of (Err Memory) flushed = 2
