-- The character nearest to a number.
use Rattle.std.proofs.Common.{◌≡◌, ℕ, List, [], ◌∷◌, ◌++◌, reverse}
use Rattle.std.proofs.lemmas.List.{reverse-append}

pub reverse_last : (front : List ℕ) (c : ℕ) → reverse (front ++ c ∷ []) ≡ c ∷ reverse front
reverse_last front c = reverse-append front (c ∷ [])
