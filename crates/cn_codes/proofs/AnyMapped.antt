-- Whether some element has a property, told from what it is mapped to.
use Rattle.std.proofs.Common.{◌≡◌, Bool, ◌||◌, List, [], ◌∷◌, map, refl, ap}
use Rattle.std.specs.List.{list_any}

pub any-mapped : {A B : Type 0} (test : B → Bool) (view : A → B) (elements : List A)
    → list_any (λ each. test (view each)) elements ≡ list_any test (map view elements)
any-mapped test view [] = refl
any-mapped test view (each ∷ elements) =
    ap (λ b. test (view each) || b) (any-mapped test view elements)
