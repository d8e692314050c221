-- A Chinese decimal: a number, 點, and decimals, such as 三點一四 and 一百二十點五億.
use Rattle.std.specs.Prelude.{ℕ, Bool, false, not, ◌&&◌, nat_le, nat_lt, List, [], ◌∷◌, length, is_some, if◌then◌else◌}
use Rattle.std.specs.Option.{option_map_or}
use Rattle.cn_core.specs.Characters.{digit_of, rank_of}
use Rattle.cn_quantity.specs.declared.characters.DigitKind.TheVariants.{Chinese}
use Rattle.cn_quantity.specs.Characters.{is_point}
use Rattle.cn_quantity.specs.Digits.{leading_digits, after_digits}
use Rattle.cn_quantity.specs.Figures.{are_decimals}
use Rattle.cn_quantity.specs.Units.{are_below, first_factor}

-- the text before the first point, and the text after it
abbrev pub before_point : List ℕ → List ℕ
before_point [] = []
before_point (c ∷ rest) = if is_point Chinese c then [] else c ∷ before_point rest

abbrev pub after_point : List ℕ → List ℕ
after_point [] = []
after_point (c ∷ rest) = if is_point Chinese c then rest else after_point rest

-- the character is a unit from 百 up
abbrev pub is_great_unit : ℕ → Bool
is_great_unit c = option_map_or (λ rank. nat_le 2 rank) (rank_of c) false

-- the last character is a digit directly after a unit from 百 up, as in 一百二
abbrev pub ends_colloquially : List ℕ → Bool
ends_colloquially (c ∷ d ∷ []) = is_great_unit c && is_some (digit_of d)
ends_colloquially (c ∷ d ∷ e ∷ rest) = ends_colloquially (d ∷ e ∷ rest)
ends_colloquially text = false

-- the text before the point is not empty and does not end colloquially; decimals are after the
-- point; and their first unit, if they have one, is greater than each unit before the point
abbrev pub is_chinese_decimal : List ℕ → Bool
is_chinese_decimal text =
    let whole = before_point text in
    let behind = after_point text in
    nat_lt 0 (length whole) && not (ends_colloquially whole)
    && are_decimals Chinese behind && are_below (first_factor (after_digits Chinese behind)) whole

-- the number of digits after the point
abbrev pub decimals_behind_point : List ℕ → ℕ
decimals_behind_point text = leading_digits Chinese (after_point text)
