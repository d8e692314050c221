-- A string of no bytes has no characters.
use Rattle.std.proofs.Common.{◌≡◌, ℕ, List, [], ◌∷◌, length, chars, arith}
use Rattle.std.proofs.lemmas.Str.{chars-nil}

pub chars-from_empty : (bytes : List ℕ) → length bytes ≡ 0 → chars bytes ≡ []
chars-from_empty [] none = chars-nil
chars-from_empty (b ∷ bytes) none = absurd (omega (arith, none))
