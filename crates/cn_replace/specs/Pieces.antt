-- Sets of characters, and the parts of a text that consist of them. The characters before something
-- are given nearest first.
use Rattle.std.specs.Prelude.{ℕ, Bool, false, ◌||◌, nat_le, List, [], ◌∷◌, codes, if◌then◌else◌}
use Rattle.std.specs.Char.{char_set_contains, is_ascii_alphabetic}
use Rattle.std.specs.Option.{option_map_or}
use Rattle.cn_core.specs.Characters.{rank_of}
use Rattle.cn_core.specs.FigureCharacters.{is_figure}

-- the character is a Chinese point
unfoldable pub is_point : ℕ → Bool
is_point c = char_set_contains (codes "点點") c

-- the character is a zero that is not a figure
unfoldable pub is_zero : ℕ → Bool
is_zero c = char_set_contains (codes "零〇") c

-- the character is a unit of this rank or a greater one
abbrev pub is_unit_from : ℕ → ℕ → Bool
is_unit_from least c = option_map_or (λ rank. nat_le least rank) (rank_of c) false

-- the character is an ASCII letter or a figure
abbrev pub is_letter_or_figure : ℕ → Bool
is_letter_or_figure c = is_ascii_alphabetic c || is_figure c

-- the first character passes a test
abbrev pub begins : (ℕ → Bool) → List ℕ → Bool
begins passes [] = false
begins passes (c ∷ text) = passes c

-- the characters with which a text begins that pass a test, and the text after them
abbrev pub leading : (ℕ → Bool) → List ℕ → List ℕ
leading passes [] = []
leading passes (c ∷ text) = if passes c then c ∷ leading passes text else []

abbrev pub after_leading : (ℕ → Bool) → List ℕ → List ℕ
after_leading passes [] = []
after_leading passes (c ∷ text) = if passes c then after_leading passes text else c ∷ text
