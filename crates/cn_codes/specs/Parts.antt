-- The parts that are found in a text, from the first to the last.
use Rattle.std.specs.Prelude.{ℕ, zero, suc, List, [], ◌∷◌, ◌++◌, chars, Option}
use Rattle.cn_find.specs.Spans.{Span, in_front, text_before}
use Rattle.cn_phrase.specs.Items.{item_here, still_passed}

-- the parts that begin among these characters, after the first `passed` of them, where `rest_at` is the
-- text after the part that begins with a text, if one does
abbrev pub parts_after : (List ℕ → List ℕ → Option (List ℕ)) → ℕ → List ℕ → List ℕ → List Span
parts_after rest_at passed front [] = []
parts_after rest_at (suc passed) front (c ∷ ahead) = parts_after rest_at passed (c ∷ front) ahead
parts_after rest_at zero front (c ∷ ahead) =
    item_here front (c ∷ ahead) (rest_at front (c ∷ ahead))
    ++ parts_after rest_at (still_passed ahead (rest_at front (c ∷ ahead))) (c ∷ front) ahead

-- the parts that a search finds in the suffix `rest` of a text
abbrev pub parts_left : (List ℕ → List ℕ → Option (List ℕ)) → List ℕ → List ℕ → List Span
parts_left rest_at whole rest = parts_after rest_at 0 (in_front (text_before whole rest)) (chars rest)
