-- Units that multiply what is before them, such as 百万 in 2.5百万.
use Rattle.std.specs.Prelude.{ℕ, ◌*◌, ◌^◌, Bool, true, false, ◌&&◌, ◌==◌, nat_le, nat_lt, List, [], ◌∷◌, map, filter_map, Option, Some, None, if◌then◌else◌}
use Rattle.std.specs.Option.{option_map_or}
use Rattle.std.specs.List.{list_all}
use Rattle.cn_core.specs.declared.method.ChineseCountMethod.{ChineseCountMethod}
use Rattle.cn_core.specs.Characters.{rank_of}
use Rattle.cn_core.specs.Scale.{scale, scale_fits}
use Rattle.cn_core.specs.Value.{product}

-- each character is a unit, greater than this rank and than the one before it
abbrev pub are_rising : ℕ → List ℕ → Bool
are_rising least [] = true
are_rising least (c ∷ rest) =
    option_map_or (λ rank. nat_lt least rank && are_rising rank rest) (rank_of c) false

-- rising units: from 百 up, each greater than the one before it, or none
abbrev pub are_rising_units : List ℕ → Bool
are_rising_units text = are_rising 1 text

-- a number, if a condition holds and the number fits 128 bits
abbrev pub fitting_if : Bool → ℕ → Option ℕ
fitting_if false number = None
fitting_if true number = if nat_lt number (2 ^ 128) then Some number else None

-- a number, times the scale of each unit of a text, if each scale and the product fit 128 bits
abbrev pub times_units : ChineseCountMethod → ℕ → List ℕ → Option ℕ
times_units method number text =
    let ranks = filter_map rank_of text in
    fitting_if (list_all (scale_fits method) ranks) (number * product (map (scale method) ranks))

-- each unit of the text is smaller than this one
abbrev pub are_below : Option ℕ → List ℕ → Bool
are_below None text = true
are_below (Some greatest) text =
    list_all (λ c. option_map_or (λ rank. nat_lt rank greatest) (rank_of c) true) text

-- the rank of the first character
abbrev pub first_rank : List ℕ → Option ℕ
first_rank [] = None
first_rank (c ∷ rest) = rank_of c

-- 個
abbrev pub is_ge : ℕ → Bool
is_ge c = option_map_or (λ rank. rank == 0) (rank_of c) false

-- the rank of the first character, or of the second if the first is 個
abbrev pub first_factor : List ℕ → Option ℕ
first_factor [] = None
first_factor (c ∷ rest) = if is_ge c then first_rank rest else rank_of c

-- rising units, and 個 may be directly before them if the first is 萬 or greater: what may follow
-- figures and decimals, as in 3万 and 3个亿
abbrev pub are_factors : List ℕ → Bool
are_factors [] = true
are_factors (c ∷ rest) =
    if is_ge c then option_map_or (λ rank. nat_le 4 rank) (first_rank rest) false
    && are_rising_units rest
    else are_rising_units (c ∷ rest)
