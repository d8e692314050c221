-- A character is a figure exactly if it has a value as a figure.
use Rattle.std.proofs.Common.{◌≡◌, ℕ, is_some, arith}
use Rattle.std.proofs.lemmas.Bool.Decides.{nat_tests}
use Rattle.cn_core.specs.FigureCharacters.{figure_of, is_figure}

pub figure_value : (c : ℕ) → is_figure c ≡ is_some (figure_of c)
unfolding figure_of
figure_value c = grind (arith, nat_tests)
