-- What an error of a reader means, and the exit status of a run.
use Rattle.std.specs.Prelude.{ℕ, Bool, true, false, Result, Ok, Err}
use Rattle.std.specs.declared.io.ErrorKind.{ErrorKind}
use Rattle.std.specs.declared.io.ErrorKind.TheVariants.{OutOfMemory}
use Rattle.numbers.specs.declared.fault.RunError.{RunError}
use Rattle.numbers.specs.declared.fault.RunError.TheVariants.{Read, Write, Memory}

-- why a run stops if a read fails; a read may have requested memory
abbrev pub fault_of_read : ErrorKind → RunError
fault_of_read OutOfMemory = Memory
fault_of_read _ = Read

-- the exit status, by whether the command line asked for anything, or by why the run stopped
abbrev pub status_of : Result Bool RunError → ℕ
status_of (Ok true) = 0
status_of (Ok false) = 2
status_of (Err Read) = 1
status_of (Err Write) = 1
status_of (Err Memory) = 2
