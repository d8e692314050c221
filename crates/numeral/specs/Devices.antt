-- The states of sources and sinks, and how a read changes the state of a source.
use Rattle.numeral.specs.declared.devices.EmptyReads.{EmptyReads}
use Rattle.std.specs.Prelude.{◌≡◌, ◌==◌, ◌+◌, ◌%◌, ◌^◌, ◌||◌, ℕ, Bool, true, List, Option, if◌then◌else◌, MatchResult, Result}

pub record SourceState : Type 0 where
  -- the bytes that later reads will return, if the source specifies them
  pub remaining : Option (List ℕ)
  -- whether a read has failed
  pub failed : Bool
  -- the number of reads that returned no byte, counted in 64 bits, and whether the last read that
  -- did not fail returned none
  pub empty : EmptyReads

pub record SinkState : Type 0 where
  -- the bytes that were written, if the sink specifies them
  pub contents : Option (List ℕ)
  -- whether a write has failed
  pub failed : Bool
  -- whether some of the bytes that were written may not have been passed on yet
  pub holds_back : Bool
  -- whether the last flush failed although no write failed, and nothing was written since
  pub flush_failed : Bool

-- the next count in 64 bits, where 0 follows 2^64 - 1
abbrev pub next_count : ℕ → ℕ
next_count count = (count + 1) % 2 ^ 64

-- the count of reads that returned no byte, after one more read that returned this many bytes
abbrev pub count_after : ℕ → ℕ → ℕ
count_after given count = if given == 0 then next_count count else count

-- how a read changes the count, and whether the last read returned no byte; a failed read changes
-- neither
abbrev pub CountsRead : {E : Type 0} → EmptyReads → EmptyReads → Result ℕ E → Type 0
CountsRead old new result =
    MatchResult result
    (λ given. (new.count ≡ count_after given old.count) × (new.ended ≡ (given == 0)))
    (λ _. new ≡ old)

-- all bytes that were written are passed on, unless a write or the last flush failed
abbrev pub IsHandedOn : SinkState → Type 0
IsHandedOn sink = sink.holds_back ≡ true → (sink.failed || sink.flush_failed) ≡ true
