-- Words at the start and at the end of a text.
use Rattle.std.specs.Prelude.{ℕ, ◌==◌, Bool, true, false, ◌&&◌, List, [], ◌∷◌, length, reverse, drop, Option, Some, None, unwrap_or, if◌then◌else◌}
use Rattle.std.specs.List.{list_any}

-- a text begins with a word
abbrev pub begins_word : List ℕ → List ℕ → Bool
begins_word [] text = true
begins_word (c ∷ word) [] = false
begins_word (c ∷ word) (d ∷ text) = c == d && begins_word word text

-- a text begins with one of these words
abbrev pub begins_any : List (List ℕ) → List ℕ → Bool
begins_any words text = list_any (λ word. begins_word word text) words

-- the characters before a place, the nearest first, end with one of these words
abbrev pub ends_any : List (List ℕ) → List ℕ → Bool
ends_any words front = list_any (λ word. begins_word (reverse word) front) words

-- the text after a word, if it begins with that
abbrev pub after_word : List ℕ → List ℕ → Option (List ℕ)
after_word word text = if begins_word word text then Some (drop (length word) text) else None

-- the characters before a word that ends them
abbrev pub before_word : List ℕ → List ℕ → Option (List ℕ)
before_word word front = after_word (reverse word) front

-- the characters before the first of these words that ends them, or all of them
abbrev pub without_any : List (List ℕ) → List ℕ → List ℕ
without_any [] front = front
without_any (word ∷ words) front =
    unwrap_or (before_word word front) (without_any words front)
