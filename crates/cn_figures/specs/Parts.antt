-- What the characters of figures are read as.
use Rattle.std.specs.Prelude.{ℕ, List, map, Option, Some, option_map, if◌then◌else◌}
use Rattle.cn_core.specs.FigureCharacters.{figure_of, is_comma, is_currency, is_figure_point}
use Rattle.cn_figures.specs.declared.part.Part.{Part}
use Rattle.cn_figures.specs.declared.part.Part.TheVariants.{Currency, Digit, Comma, Point}

-- what a character is read as; none if it is not read
unfoldable pub part_of : ℕ → Option Part
part_of c =
    if is_currency c then Some Currency
    else (if is_comma c then Some Comma
    else (if is_figure_point c then Some Point else option_map Digit (figure_of c)))

-- what each character of a text is read as
abbrev pub parts_of : List ℕ → List (Option Part)
parts_of text = map part_of text
