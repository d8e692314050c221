-- The result of reading a printed text.
use Rattle.std.proofs.Common.{◌≡◌, ℕ, MatchBool, List, Result, Ok, subst}
use Rattle.std.proofs.lemmas.Str.{is_utf8-from_IsUtf8}
use Rattle.std.specs.Str.{IsUtf8, is_utf8}

-- the result of reading a text with only one answer is that answer
pub told-back : {A R Told : Type 0} (Reads : List ℕ → Result A R → Type 0)
    (Tells : List ℕ → Result A R → ℕ → Told → Type 0) (NotUtf8 : ℕ → Told → Type 0)
    (bytes : List ℕ) (value : A) → IsUtf8 bytes
    → ((answer : Result A R) → Reads bytes answer → answer ≡ Ok value)
    → (status : ℕ) (told : Told)
    → MatchBool (is_utf8 bytes) ((answer : Result A R) × Reads bytes answer
    × Tells bytes answer status told) (NotUtf8 status told)
    → Tells bytes (Ok value) status told
told-back {A} {R} Reads Tells NotUtf8 bytes value utf8 one status told is =
    let read : (answer : Result A R) × Reads bytes answer × Tells bytes answer status told =
    rw (is_utf8-from_IsUtf8 bytes utf8) at is in
    subst (λ answer. Tells bytes answer status told) (one read.0 read.1) read.2
