-- The open units as the walk keeps them, each with its scale, in an array whose last entry is the
-- top of a stack.
use Rattle.std.specs.Prelude.{◌≡◌, ℕ, ◌+◌, ◌*◌, ◌^◌, ◌<◌, SomeIff, Bool, nat_le, nat_lt, List, [], ◌∷◌, Option, Some, None, if◌then◌else◌}
use Rattle.std.specs.List.{list_all}
use Rattle.cn_core.specs.declared.unit.Unit.TheVariants.{Ge}
use Rattle.cn_core.specs.Characters.{rank}
use Rattle.cn_judge.specs.declared.open_units.OpenUnit.{OpenUnit}
use Rattle.cn_judge.specs.Entries.{stacked}

-- an open unit: its rank, its scale, and the sum below it when it was opened; lists of them start
-- with the top
abbrev pub StackEntry : Type 0
StackEntry = ℕ × ℕ × ℕ

-- each scale is above 0
abbrev pub all_positive : List StackEntry → Bool
all_positive units = list_all (λ top. nat_lt 0 top.1) units

-- the rank of the unit on top
abbrev pub top_of : List StackEntry → Option ℕ
top_of [] = None
top_of (top ∷ units) = Some top.0

-- the sum after each open unit below a rank is closed. Closing the top multiplies the sum by its
-- scale and adds the sum below it
abbrev pub closed_sum : ℕ → ℕ → List StackEntry → ℕ
closed_sum limit sum [] = sum
closed_sum limit sum (top ∷ units) =
    if nat_lt top.0 limit then closed_sum limit (sum * top.1 + top.2) units else sum

-- the units that are still open after that
abbrev pub still_open : ℕ → List StackEntry → List StackEntry
still_open limit [] = []
still_open limit (top ∷ units) = if nat_lt top.0 limit then still_open limit units else top ∷ units

-- the sum after all units are closed
abbrev pub total_sum : ℕ → List StackEntry → ℕ
total_sum sum [] = sum
total_sum sum (top ∷ units) = total_sum (sum * top.1 + top.2) units

-- the entry that is read past the end of the array
abbrev pub no_unit : OpenUnit
no_unit = record { unit = Ge; exponent = 0; below = 0 }

abbrev pub opened_at : OpenUnit → StackEntry
opened_at entry = (rank entry.unit, 10 ^ entry.exponent, entry.below)

-- the scale of each entry fits 128 bits
abbrev pub all_scales_fit : List OpenUnit → Bool
all_scales_fit entries = list_all (λ entry. nat_le entry.exponent 38) entries

-- the stack of the first `len` entries, the last of them first
abbrev pub stack_of : List OpenUnit → ℕ → List StackEntry
stack_of entries len = stacked opened_at no_unit entries len

-- `result` is the sum after the top is closed, if it fits 128 bits, and `after` is the rest of the
-- stack
abbrev pub ClosesTop : ℕ → List StackEntry → List StackEntry → Option ℕ → Type 0
ClosesTop sum [] after result = Unit {0}
ClosesTop sum (top ∷ units) after result =
    let more = sum * top.1 + top.2 in (after ≡ units) × SomeIff result (more < 2 ^ 128) more
