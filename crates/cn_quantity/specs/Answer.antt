-- Answers that follow each other.
use Rattle.std.specs.Prelude.{ℕ, ◌+◌, Result, Ok, Err}
use Rattle.cn_core.specs.Refusal.{Refusal, incorrect_at}

-- the next answer, computed from the value of the first, or the refusal if the first is one
abbrev pub and_then : {T N : Type 0} → Result T Refusal → (T → Result N Refusal)
    → Result N Refusal
and_then (Ok value) next = next value
and_then (Err refusal) next = Err refusal

-- the same answer for a text that has `count` characters before it: the place of a fault is moved
-- by them
abbrev pub further_by : {T : Type 0} → ℕ → Result T Refusal → Result T Refusal
further_by count (Ok value) = Ok value
further_by count (Err (incorrect_at place)) = Err (incorrect_at (place + count))
further_by count (Err refusal) = Err refusal
