-- A number in figures: figures, with commas between groups of three or with none, then a point and
-- figures or none, then units or none, as 1,280.5万.
use Rattle.std.specs.Prelude.{ℕ, Bool, true, false, not, ◌&&◌, ◌||◌, ◌==◌, nat_lt, nat_le, List, [], ◌∷◌, length, if◌then◌else◌}
use Rattle.std.specs.List.{list_all, slice_split}
use Rattle.cn_core.specs.FigureCharacters.{is_comma}
use Rattle.cn_quantity.specs.declared.characters.DigitKind.{DigitKind}
use Rattle.cn_quantity.specs.declared.characters.DigitKind.TheVariants.{Figure}
use Rattle.cn_quantity.specs.Characters.{is_point}
use Rattle.cn_quantity.specs.Digits.{after_digits, begins_with_nought, is_digit, leading_digits}
use Rattle.cn_quantity.specs.Units.{are_factors}

-- the figures and commas that a text begins with, and what follows them
abbrev pub whole_part : List ℕ → List ℕ
whole_part [] = []
whole_part (c ∷ rest) = if is_digit Figure c || is_comma c then c ∷ whole_part rest else []

abbrev pub after_whole : List ℕ → List ℕ
after_whole [] = []
after_whole (c ∷ rest) = if is_digit Figure c || is_comma c then after_whole rest else c ∷ rest

-- the pieces of the whole part between its commas: 1 and 280 of 1,280.5万
abbrev pub groups_of : List ℕ → List (List ℕ)
groups_of text = slice_split is_comma (whole_part text)

-- one to three figures that do not begin with 0
abbrev pub may_lead_groups : List ℕ → Bool
may_lead_groups figures =
    nat_lt 0 (length figures) && nat_le (length figures) 3 && not (begins_with_nought figures)

-- some figures without a comma; or one to three that do not begin with 0, and then groups of three
abbrev pub are_groups : List (List ℕ) → Bool
are_groups [] = false
are_groups (figures ∷ []) = nat_lt 0 (length figures)
are_groups (first ∷ others) =
    may_lead_groups first && list_all (λ group. length group == 3) others

-- digits, and then perhaps units: what may be after a point
abbrev pub are_decimals : DigitKind → List ℕ → Bool
are_decimals kind text =
    nat_lt 0 (leading_digits kind text) && are_factors (after_digits kind text)

-- a point and decimals, or units, or nothing: what may follow the whole part
abbrev pub ends_in_figures : List ℕ → Bool
ends_in_figures [] = true
ends_in_figures (c ∷ rest) =
    if is_point Figure c then are_decimals Figure rest else are_factors (c ∷ rest)

abbrev pub is_in_figures : List ℕ → Bool
is_in_figures text = are_groups (groups_of text) && ends_in_figures (after_whole text)

-- how many figures follow the point that a text begins with
abbrev pub decimals_of : List ℕ → ℕ
decimals_of [] = 0
decimals_of (c ∷ rest) = if is_point Figure c then leading_digits Figure rest else 0

abbrev pub decimals_in_figures : List ℕ → ℕ
decimals_in_figures text = decimals_of (after_whole text)
