-- The value of a digit of a code is below 10.
use Rattle.std.proofs.Common.{◌≡◌, ℕ, ◌<◌, Bool, true, false, [], Option, Some, None, unwrap_or, if◌then◌else◌, refl, arith}
use Rattle.std.specs.Char.{char_set_contains}
use Rattle.std.proofs.lemmas.List.Quantifiers.{position-Some}
use Rattle.cn_core.specs.Characters.{digit_of}
use Rattle.cn_core.specs.FigureCharacters.{figure_of, figure_rows}
use Rattle.cn_core.proofs.OpenUnits.{digit_of-low}
use Rattle.cn_codes.specs.Digits.{is_chinese, is_yao, value_of}

figure_of-low : (c value : ℕ) → figure_of c ≡ Some value → value < 10
unfolding figure_of
figure_of-low c value h = (position-Some (λ row. char_set_contains row c) figure_rows value [] h).0

digit-low : (c : ℕ) (d : Option ℕ) → digit_of c ≡ d → unwrap_or d 0 < 10
digit-low c None e = omega arith
digit-low c (Some value) e = digit_of-low c value e

figure-low : (c : ℕ) (d : Option ℕ) → figure_of c ≡ d → unwrap_or d 0 < 10
figure-low c None e = omega arith
figure-low c (Some value) e = figure_of-low c value e

pub value_of-low : (c : ℕ) → value_of c < 10
value_of-low c = by (is_yao c) (is_chinese c) where
  by : (yao chinese : Bool)
      → unwrap_or (if yao then Some 1 else (if chinese then digit_of c else figure_of c)) 0 < 10
  by true chinese = omega arith
  by false true = digit-low c (digit_of c) refl
  by false false = figure-low c (figure_of c) refl
