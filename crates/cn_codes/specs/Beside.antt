-- What is directly beside a number, and makes it a part of a name, an address or a formula.
use Rattle.std.specs.Prelude.{ℕ, nat_le, Bool, false, not, ◌&&◌, ◌||◌, List, [], ◌∷◌, length, codes}
use Rattle.std.specs.Char.{char_set_contains}
use Rattle.std.specs.Int.{is_in_range}
use Rattle.cn_replace.specs.Pieces.{after_leading, begins, is_letter_or_figure, leading}

-- the character is a capital letter, from A to Z
abbrev pub is_capital : ℕ → Bool
is_capital c = is_in_range 65 90 c

unfoldable pub is_sign_before : ℕ → Bool
is_sign_before c = char_set_contains (codes "_-./\\:=#@^*$&<+%％‰~～") c

unfoldable pub is_sign_after : ℕ → Bool
is_sign_after c = char_set_contains (codes "_/\\=@^*$&<+%％‰") c

-- the character goes on with a number only if a letter or a figure is beyond it
unfoldable pub is_bridge : ℕ → Bool
is_bridge c = char_set_contains (codes ".-:~～") c

-- the nearest of the characters before a place is one that a code is not after
unfoldable pub touches_before : List ℕ → Bool
touches_before front = begins (λ c. is_letter_or_figure c || is_sign_before c) front

-- a text begins with what a code is not before
unfoldable pub touches_after : List ℕ → Bool
touches_after [] = false
touches_after (c ∷ rest) =
    is_letter_or_figure c || (is_sign_after c || (is_bridge c && begins is_letter_or_figure rest))

-- one to three capital letters are directly before a place, and begin a name, as G in G15
unfoldable pub follows_letters : List ℕ → Bool
follows_letters front =
    begins is_capital front
    && (nat_le (length (leading is_capital front)) 3
    && not (touches_before (after_leading is_capital front)))
