-- Reading a text of which some characters are left out, depending on those before them.
use Rattle.std.specs.Prelude.{ℕ, Bool, List, [], ◌∷◌, Option, Some, if◌then◌else◌}
use Rattle.std.specs.Option.{option_map}

-- which characters are kept, and the state of the sieve after each character
pub record Sieve (F : Type 0) : Type 0 where
  pub keeps : F → ℕ → Bool
  pub next : F → ℕ → F

-- the characters of a text that are kept
abbrev pub kept : {F : Type 0} → Sieve F → F → List ℕ → List ℕ
kept sieve front [] = []
kept sieve front (c ∷ rest) =
    let more = kept sieve (sieve.next front c) rest in
    if sieve.keeps front c then c ∷ more else more

-- the state of the sieve after a text
abbrev pub after : {F : Type 0} → Sieve F → F → List ℕ → F
after sieve front [] = front
after sieve front (c ∷ rest) = after sieve (sieve.next front c) rest

-- a step of a reader, which the character reaches only if it is kept
abbrev pub sifted : {F S T : Type 0} → Sieve F → (F → S → T) → (S → ℕ → Option S)
    → F → S → ℕ → Option T
sifted sieve both step front state c =
    if sieve.keeps front c then option_map (both (sieve.next front c)) (step state c)
    else Some (both (sieve.next front c) state)
