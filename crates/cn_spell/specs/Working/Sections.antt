-- A number as sections of four digits, and the marks that they are written as.
use Rattle.std.specs.Prelude.{◌≡◌, ℕ, zero, suc, ◌*◌, ◌/◌, ◌%◌, ◌^◌, ◌≤◌, ◌<◌, Bool, false, ◌==◌, ◌&&◌, ◌||◌, nat_le, nat_lt, List, [], ◌∷◌, ◌++◌, slice_index, if◌then◌else◌}
use Rattle.cn_core.specs.declared.method.ChineseCountMethod.{ChineseCountMethod}
use Rattle.cn_core.specs.declared.method.ChineseCountMethod.TheVariants.{Low}
use Rattle.cn_core.specs.Mark.{Mark, digit, unit}

-- the most sections that are split off a number: none under `Low`, where each power of ten has its
-- own unit
abbrev pub sections_within : ChineseCountMethod → ℕ
sections_within Low = 0
sections_within method = 9

-- the rest above these sections is below this number
abbrev pub above_limit : ChineseCountMethod → ℕ
above_limit Low = 10 ^ 16
above_limit method = 10 ^ 4

-- the lowest `count` sections of a number, and the rest above them
pub record HoldsSections (number : ℕ) (sections : List ℕ) (count above : ℕ) : Type 0 where
  pub few : count ≤ 9
  pub split : above ≡ number / 10 ^ (4 * count)
  pub each : (index : ℕ) → index < count
      → slice_index sections index ≡ number / 10 ^ (4 * index) % 10 ^ 4
  pub some : 0 < count → 0 < above

-- the lowest `count` digits of a number, with 零 for each that it does not reach
abbrev pub lowest_marks : ℕ → ℕ → List Mark
lowest_marks zero number = []
lowest_marks (suc count) number = digit (number / 10 ^ count % 10) ∷ lowest_marks count number

-- the mark, if it is kept, or no mark
abbrev pub kept : Bool → Mark → List Mark
kept is_kept mark = if is_kept then mark ∷ [] else []

-- the marks of a digit at a power that has its own unit: for 0 none, or 零 if `is_gap`
abbrev pub digit_marks : ℕ → ℕ → Bool → List Mark
digit_marks power value is_gap =
    kept (nat_lt 0 value || is_gap) (digit value)
    ++ kept (nat_lt 0 value && nat_lt 0 power) (unit power)

-- the marks of a section: a 0 is written as 零 if the next lower digit is not 0 and the section has
-- a digit above it
abbrev pub section_marks : ℕ → List Mark
section_marks section =
    digit_marks 3 (section / 100 / 10) false
    ++ (digit_marks 2 (section / 100 % 10) (nat_lt 0 (section % 100 / 10) && nat_le 1000 section)
    ++ (digit_marks 1 (section % 100 / 10) (nat_lt 0 (section % 100 % 10) && nat_le 100 section)
    ++ digit_marks 0 (section % 100 % 10) false))

-- the marks of the highest digit and its unit, without 一 before 十
abbrev pub top_marks : ℕ → ℕ → List Mark
top_marks power value =
    (if value == 1 && power == 1 then [] else digit value ∷ [])
    ++ kept (nat_lt 0 power) (unit power)
