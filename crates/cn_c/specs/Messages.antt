-- What the calls that print messages write and return, except the words.
use Rattle.std.specs.Prelude.{ℕ, ◌≤◌, ◌==◌, nat_le, Bool, ◌&&◌, ◌||◌, List, length, is_some, slice_get}
use Rattle.std.specs.Bool.{MatchBool}
use Rattle.std.specs.Str.{is_utf8}
use Rattle.cn_c.specs.Codes.{inputs, kinds, languages, named_ways, CN_NOT_UTF8, CN_TOO_LONG, CN_UNKNOWN}
use Rattle.cn_c.specs.Prints.{PutsNothing, PutsIfItFits}
use Rattle.cn_c.specs.Quantities.{method_of}

-- some message of at most 512 bytes is written if it fits
abbrev pub PutsMessage : List ℕ → ℕ → List ℕ → ℕ → Type 0
PutsMessage old status new len =
    (message : List ℕ) × (length message ≤ 512) × PutsIfItFits message old status new len

-- the result of printing a message about bytes, or UNKNOWN unless all codes name something
abbrev pub IsMessage : Bool → List ℕ → List ℕ → ℕ → List ℕ → ℕ → Type 0
IsMessage are_named bytes old status new len =
    MatchBool are_named
    (MatchBool (is_utf8 bytes) (PutsMessage old status new len)
    (PutsNothing CN_NOT_UTF8 old status new len))
    (PutsNothing CN_UNKNOWN old status new len)

-- the same, given the codes of an input and a language
abbrev pub IsInputMessage : List ℕ → ℕ → ℕ → List ℕ → ℕ → List ℕ → ℕ → Type 0
IsInputMessage bytes input language old status new len =
    IsMessage (is_some (slice_get inputs input) && is_some (slice_get languages language)) bytes old
    status new len

-- the same, given the codes of a type, a way and a language
abbrev pub IsNumberMessage : List ℕ → ℕ → ℕ → ℕ → List ℕ → ℕ → List ℕ → ℕ → Type 0
IsNumberMessage bytes kind way language old status new len =
    IsMessage
    (is_some (slice_get kinds kind) && is_some (slice_get named_ways way)
    && is_some (slice_get languages language))
    bytes old status new len

-- the same, given the codes of a method and a language
abbrev pub IsQuantityMessage : List ℕ → ℕ → ℕ → List ℕ → ℕ → List ℕ → ℕ → Type 0
IsQuantityMessage bytes method language old status new len =
    IsMessage
    (is_some (method_of (slice_get named_ways method)) && is_some (slice_get languages language))
    bytes old status new len

-- whether a status is one that a call returns
abbrev pub is_status : ℕ → Bool
is_status status = nat_le status 12 || status == CN_TOO_LONG

-- the result of printing what a status means
abbrev pub IsStatusMessage : ℕ → ℕ → List ℕ → ℕ → List ℕ → ℕ → Type 0
IsStatusMessage status language old printed new len =
    MatchBool (is_some (slice_get languages language) && is_status status)
    (PutsMessage old printed new len) (PutsNothing CN_UNKNOWN old printed new len)
