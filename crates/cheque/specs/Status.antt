-- The exit status of a run.
use Rattle.std.specs.Prelude.{ℕ}
use Rattle.std.specs.declared.io.ErrorKind.{ErrorKind}
use Rattle.std.specs.declared.io.ErrorKind.TheVariants.{OutOfMemory}

-- the status if an error stopped the run
abbrev pub status_of_fault : ErrorKind → ℕ
status_of_fault OutOfMemory = 2
status_of_fault _ = 1
