-- Digits side by side.
use Rattle.std.specs.Prelude.{ℕ, suc, Bool, false, ◌==◌, List, [], ◌∷◌, filter_map, Option, is_some, if◌then◌else◌}
use Rattle.std.specs.Option.{option_map_or}
use Rattle.cn_core.specs.declared.method.ChineseCountMethod.{ChineseCountMethod}
use Rattle.cn_core.specs.Digits.{value_after}
use Rattle.cn_core.specs.FigureCharacters.{figure_of}
use Rattle.cn_quantity.specs.declared.characters.DigitKind.{DigitKind}
use Rattle.cn_quantity.specs.Characters.{digit_by}
use Rattle.cn_quantity.specs.Units.{times_units}

abbrev pub is_digit : DigitKind → ℕ → Bool
is_digit kind c = is_some (digit_by kind c)

-- the text begins with a digit
abbrev pub begins_with_digit : DigitKind → List ℕ → Bool
begins_with_digit kind [] = false
begins_with_digit kind (c ∷ rest) = is_digit kind c

-- the text begins with the figure 0
abbrev pub begins_with_nought : List ℕ → Bool
begins_with_nought [] = false
begins_with_nought (c ∷ rest) = option_map_or (λ figure. figure == 0) (figure_of c) false

-- how many digits a text begins with
abbrev pub leading_digits : DigitKind → List ℕ → ℕ
leading_digits kind [] = 0
leading_digits kind (c ∷ rest) = if is_digit kind c then suc (leading_digits kind rest) else 0

-- the text after these digits
abbrev pub after_digits : DigitKind → List ℕ → List ℕ
after_digits kind [] = []
after_digits kind (c ∷ rest) = if is_digit kind c then after_digits kind rest else c ∷ rest

-- the number that the digits of a text write after those of another number: 3514 of 35 and 一四
abbrev pub read_on : DigitKind → ℕ → List ℕ → ℕ
read_on kind number text = value_after number (filter_map (digit_by kind) text)

-- the same, times each unit of the text, if that fits: 12050000 of 120 and 五萬
abbrev pub read_with_units : ChineseCountMethod → DigitKind → ℕ → List ℕ → Option ℕ
read_with_units method kind number text = times_units method (read_on kind number text) text
