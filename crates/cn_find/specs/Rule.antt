-- The rule of a search: which characters of a text belong to what it looks for.
use Rattle.std.specs.Prelude.{ℕ, Bool, false, not, ◌&&◌, List, [], ◌∷◌}
use Rattle.cn_find.specs.declared.wanted.Wanted.{Wanted}
use Rattle.cn_find.specs.Belongs.{belongs, is_parted}

-- a rule. `belongs` says whether a character belongs, given the characters before it, the nearest
-- first, and those after it. `is_parted` says whether two neighbours are in different runs although
-- both belong
pub record Rule : Type 0 where
  pub belongs : List ℕ → ℕ → List ℕ → Bool
  pub is_parted : ℕ → ℕ → Bool

-- the rule of numbers, which does not depend on the characters before one
abbrev pub number_rule : Wanted → Rule
number_rule wanted =
    record { belongs = λ front c after. belongs wanted c after; is_parted = is_parted }

-- the character and the next one are in one run: both belong, and the rule does not part them
abbrev pub is_joined : Rule → List ℕ → ℕ → List ℕ → Bool
is_joined rule front c [] = false
is_joined rule front c (next ∷ after) =
    rule.belongs front c (next ∷ after)
    && (rule.belongs (c ∷ front) next after && not (rule.is_parted c next))
