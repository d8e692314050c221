-- A text in which the parts of a chain, each joined to the next, are either all replaced or all left
-- unchanged.
use Rattle.std.specs.Prelude.{◌≡◌, ℕ, Bool, false, ◌&&◌, ◌||◌, List, [], ◌∷◌, ◌++◌, drop, Option, Some, None, unwrap_or, if◌then◌else◌}
use Rattle.cn_find.specs.Spans.{Span}
use Rattle.cn_replace.specs.Joined.{are_joined, end_of, is_joined_at}
use Rattle.cn_replace.specs.Replaced.{text_for}

-- the span is a part of a text
abbrev pub IsPart : List ℕ → Span → Type 0
IsPart text span = text ≡ span.before ++ (span.text ++ span.after)

-- a part is joined to the first of the others
abbrev pub is_joined_to_next : Span → List Span → Bool
is_joined_to_next span [] = false
is_joined_to_next span (next ∷ others) = are_joined span next

-- the first of these parts, or one that is joined to it directly or through others, holds its chain
abbrev pub is_held : (Span → Bool) → List Span → Bool
is_held holds [] = false
is_held holds (span ∷ others) =
    holds span || (is_joined_to_next span others && is_held holds others)

-- a part is joined to the part that ended at that byte, if there was one
abbrev pub goes_on : Option ℕ → Span → Bool
goes_on None span = false
goes_on (Some end) span = is_joined_at end span

-- whether the chain of the first of these parts is held, given the byte at which the part before it
-- ended, if there was one, and whether the chain of that one was held
abbrev pub held_on : (Span → Bool) → Option ℕ → Bool → Span → List Span → Bool
held_on holds end held span others =
    if goes_on end span then held else is_held holds (span ∷ others)

-- the text that is written for a part: itself if its chain is held
abbrev pub text_unless : Bool → (Span → Option (List ℕ)) → Span → List ℕ
text_unless held new span = if held then span.text else text_for new span

-- the text from the end of the last part on, in which these parts are replaced unless their chain is
-- held
abbrev pub in_chains_from : (Span → Option (List ℕ)) → (Span → Bool) → List ℕ → Option ℕ → Bool
    → List Span → List ℕ
in_chains_from new holds bytes end held [] = drop (unwrap_or end 0) bytes
in_chains_from new holds bytes end held (span ∷ others) =
    drop (unwrap_or end 0) span.before
    ++ text_unless (held_on holds end held span others) new span
    ++ in_chains_from new holds bytes (Some (end_of span))
    (held_on holds end held span others) others

-- a text with these parts of it replaced, except those whose chain is held
abbrev pub in_chains : (Span → Option (List ℕ)) → (Span → Bool) → List ℕ → List Span → List ℕ
in_chains new holds bytes parts = in_chains_from new holds bytes None false parts
