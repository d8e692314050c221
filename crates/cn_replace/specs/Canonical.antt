-- Texts of figures alone, written in ASCII, without commas and without leading zeros.
use Rattle.std.specs.Prelude.{ℕ, Bool, false, not, ◌&&◌, ◌||◌, List, [], ◌∷◌, ◌++◌, take, drop, codes, if◌then◌else◌}
use Rattle.std.specs.Char.{char_set_contains}
use Rattle.std.specs.List.{list_all}
use Rattle.std.specs.Option.{option_map_or}
use Rattle.cn_core.specs.Characters.{row_with}
use Rattle.cn_core.specs.FigureCharacters.{is_comma, is_figure, is_figure_minus, is_figure_point}
use Rattle.cn_replace.specs.Pieces.{begins}

-- the character is a figure, a point, a comma or a sign
abbrev pub is_of_figures : ℕ → Bool
is_of_figures c =
    is_figure c || (is_figure_point c || (is_comma c || is_figure_minus c))

-- each character is one of these
abbrev pub are_figures : List ℕ → Bool
are_figures text =
    list_all is_of_figures text

-- the characters that become each of `0123456789.-`
abbrev pub ascii_rows : List (List ℕ)
ascii_rows =
    codes "0０" ∷ codes "1１" ∷ codes "2２" ∷ codes "3３" ∷ codes "4４" ∷ codes "5５" ∷ codes "6６"
    ∷ codes "7７" ∷ codes "8８" ∷ codes "9９" ∷ codes ".．" ∷ codes "-−－" ∷ []

-- the character in ASCII; nothing for a comma
unfoldable pub ascii_of : ℕ → List ℕ
ascii_of c =
    option_map_or (λ row. take 1 (drop row (codes "0123456789.-"))) (row_with c ascii_rows) []

-- the same, or nothing if the character is left out
abbrev pub ascii_unless : Bool → ℕ → List ℕ
ascii_unless is_left_out c = if is_left_out then [] else ascii_of c

unfoldable pub is_zero_figure : ℕ → Bool
is_zero_figure c = char_set_contains (codes "0０") c

-- the character is a leading zero: no figure is before it, and a figure is after it
abbrev pub is_leading_zero : Bool → ℕ → List ℕ → Bool
is_leading_zero has_figure c after =
    not has_figure && (is_zero_figure c && begins is_figure after)

-- the rest of a text, given whether a figure has been written before it
abbrev pub canonical_from : Bool → List ℕ → List ℕ
canonical_from has_figure [] = []
canonical_from has_figure (c ∷ text) =
    let leads = is_leading_zero has_figure c text in
    ascii_unless leads c ++ canonical_from (not leads && (has_figure || is_figure c)) text

abbrev pub canonical_text : List ℕ → List ℕ
canonical_text text = canonical_from false text
