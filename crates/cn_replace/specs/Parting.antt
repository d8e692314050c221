-- Which characters part a text that is rewritten in figures.
use Rattle.std.specs.Prelude.{ℕ, Bool, codes}
use Rattle.std.specs.Char.{char_set_contains}

-- a link of a range, a colon, 、 or 《: the only characters not covered by `is_named` that matter to an
-- expression beside them, or join two expressions
unfoldable pub is_noticed : ℕ → Bool
is_noticed c = char_set_contains (codes "~～–—〜:、《") c
