-- Worked examples of the characters of figures, each proved by computing the definitions.
use Rattle.std.proofs.Common.{◌≡◌, map, true, false, [], ◌∷◌, Some, None, codes, refl}
use Rattle.cn_core.specs.FigureCharacters.{figure_of, is_comma, is_currency, is_figure, is_figure_minus, is_figure_plus, is_figure_point, is_per_mille, is_percent, is_share_sign, tens_of}

values : map figure_of (codes "0９七") ≡ Some 0 ∷ Some 9 ∷ None ∷ []
unfolding figure_of
values = refl

figures : map is_figure (codes "0９七") ≡ true ∷ true ∷ false ∷ []
figures = refl

minuses : map is_figure_minus (codes "-−－–负") ≡ true ∷ true ∷ true ∷ false ∷ false ∷ []
minuses = refl

pluses : map is_figure_plus (codes "+＋正") ≡ true ∷ true ∷ false ∷ []
pluses = refl

points : map is_figure_point (codes ".．点") ≡ true ∷ true ∷ false ∷ []
points = refl

commas : map is_comma (codes ",，、") ≡ true ∷ true ∷ false ∷ []
commas = refl

percents : map is_percent (codes "%％‰") ≡ true ∷ true ∷ false ∷ []
percents = refl

per_mille : map is_per_mille (codes "‰%") ≡ true ∷ false ∷ []
per_mille = refl

share_signs : map is_share_sign (codes "%％‰/") ≡ true ∷ true ∷ true ∷ false ∷ []
share_signs = refl

currencies : map is_currency (codes "¥￥元") ≡ true ∷ true ∷ false ∷ []
currencies = refl

tens : map tens_of (codes "廿卅十") ≡ Some 20 ∷ Some 30 ∷ None ∷ []
unfolding tens_of
tens = refl
