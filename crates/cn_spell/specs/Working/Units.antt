-- The units that are written after a decimal digit, for each power of ten.
use Rattle.std.specs.Prelude.{ℕ, ◌+◌, ◌-◌, ◌/◌, ◌%◌, max, ◌==◌, ◌&&◌, nat_le, nat_lt, List, [], ◌∷◌, ◌++◌, if◌then◌else◌}
use Rattle.cn_core.specs.declared.method.ChineseCountMethod.{ChineseCountMethod}
use Rattle.cn_core.specs.declared.method.ChineseCountMethod.TheVariants.{Low, TenThousand, Middle, High}
use Rattle.cn_core.specs.Mark.{Mark, digit, unit}

-- the numbers of powers that the groups of the units span, the widest group first
abbrev pub widths_of : ChineseCountMethod → List ℕ
widths_of Low = 1 ∷ []
widths_of TenThousand = 4 ∷ 1 ∷ []
widths_of Middle = 8 ∷ 4 ∷ 1 ∷ []
widths_of High = 32 ∷ 16 ∷ 8 ∷ 4 ∷ 1 ∷ []

-- the most digits of a number that the method writes
abbrev pub powers_within : ChineseCountMethod → ℕ
powers_within Low = 16
powers_within method = 39

-- under `High`, the rank of the unit whose group begins at this power, for groups of eight or more
-- powers
abbrev pub wide_rank : ℕ → ℕ
wide_rank power =
    if power % 16 == 0 then (if power == 0 then 0 else power / 32 + 6) else 5

-- the rank of the unit whose group begins at this power
abbrev pub rank_at : ChineseCountMethod → ℕ → ℕ
rank_at Low power = power
rank_at TenThousand power =
    if power % 4 == 0 then (if power == 0 then 0 else power / 4 + 3) else power % 4
rank_at Middle power =
    if power % 4 == 0
    then (if power % 8 == 0 then (if power == 0 then 0 else power / 8 + 4) else 4)
    else power % 4
rank_at High power =
    if power % 4 == 0 then (if power % 8 == 0 then wide_rank power else 4)
    else power % 4

-- the power at which the group of this width that contains the power begins
abbrev pub start_of : ℕ → ℕ → ℕ
start_of width power = power - power % width

-- the marks of the unit at a start, with 零 after it if the powers from `filled` up to it are empty
-- and no other unit is between
abbrev pub unit_behind : ChineseCountMethod → ℕ → ℕ → ℕ → List Mark
unit_behind method filled above start =
    unit (rank_at method start)
    ∷ (if above == filled && nat_lt filled start then digit 0 ∷ [] else [])

-- the units of the groups of these widths that contain the power, for the groups that begin at or
-- above the power `above`
abbrev pub units_over : ChineseCountMethod → ℕ → ℕ → ℕ → List ℕ → List Mark
units_over method power filled above [] = []
units_over method power filled above (width ∷ widths) =
    if nat_le above (start_of width power)
    then units_over method power filled (start_of width power + 1) widths
    ++ unit_behind method filled above (start_of width power)
    else units_over method power filled above widths

-- the marks between the digit of a power and the marks that are written, whose digits fill the
-- powers below `filled`
abbrev pub units_behind : ChineseCountMethod → ℕ → ℕ → List Mark
units_behind method power filled = units_over method power filled (max filled 1) (widths_of method)
