-- Digits are below 10.
use Rattle.std.proofs.Common.{◌≡◌, ℕ, ◌<◌, Option, Some, None, IfSome, [], refl}
use Rattle.std.specs.Char.{char_set_contains}
use Rattle.std.proofs.lemmas.List.Quantifiers.{position-Some}
use Rattle.cn_core.specs.Characters.{digit_of}
use Rattle.cn_core.specs.FigureCharacters.{figure_of, figure_rows}
use Rattle.cn_core.proofs.OpenUnits.{digit_of-low}

pub digit_low : (c : ℕ) → IfSome (digit_of c) (λ n. n < 10)
digit_low c = by (digit_of c) refl where
  by : (o : Option ℕ) → digit_of c ≡ o → IfSome o (λ n. n < 10)
  by None e = tt
  by (Some n) e = digit_of-low c n e

pub figure_low : (c : ℕ) → IfSome (figure_of c) (λ n. n < 10)
unfolding figure_of
figure_low c = by (figure_of c) refl where
  by : (o : Option ℕ) → figure_of c ≡ o → IfSome o (λ n. n < 10)
  by None e = tt
  by (Some n) e = (position-Some (λ row. char_set_contains row c) figure_rows n [] e).0
