-- The state of a walk over a regular numeral: the units from 萬 up that are open, the sum so far,
-- and the section since the last of these units.
use Rattle.std.specs.Prelude.{◌≡◌, ℕ, ◌+◌, ◌*◌, ◌^◌, ◌<◌, Bool, true, false, ◌&&◌, ◌==◌, nat_lt, List, [], ◌∷◌, Option, Some, None, if◌then◌else◌}
use Rattle.std.specs.List.{list_all}
use Rattle.std.specs.Option.{option_map_or}
use Rattle.cn_core.specs.declared.method.ChineseCountMethod.{ChineseCountMethod}
use Rattle.cn_core.specs.declared.method.ChineseCountMethod.TheVariants.{Low}
use Rattle.cn_core.specs.declared.unit.Unit.TheVariants.{Ge}
use Rattle.cn_core.specs.Characters.{rank}
use Rattle.cn_core.specs.Mark.{Mark, digit, unit, other}
use Rattle.cn_core.specs.Numeral.{may_precede, each_may_precede, starts_with_digit}
use Rattle.cn_core.specs.Place.{is_tail, some_unfit}
use Rattle.cn_core.specs.Scale.{exponent}
use Rattle.cn_core.specs.Value.{value, records_from, record_units}
use Rattle.cn_quick.specs.declared.open_exponents.OpenExponent.{OpenExponent}
use Rattle.cn_quick.specs.declared.state.QuickState.{QuickState}
use Rattle.cn_judge.specs.Entries.{stacked}
use Rattle.cn_judge.specs.Private.Walk.{HasNoTail}

-- an open unit: its rank, and the exponent of the product of its scale and those of the units below
-- it; lists of them start with the one opened last
abbrev pub OpenEntry : Type 0
OpenEntry = ℕ × ℕ

-- the exponent of the product of the scales of these ranks
abbrev pub exponents : ChineseCountMethod → List ℕ → ℕ
exponents method [] = 0
exponents method (rank ∷ ranks) = exponent method rank + exponents method ranks

-- the entries of open units with these ranks
abbrev pub entries_for : ChineseCountMethod → List ℕ → List OpenEntry
entries_for method [] = []
entries_for method (rank ∷ ranks) = (rank, exponents method (rank ∷ ranks)) ∷ entries_for method ranks

-- the exponent of the product of the scales of all open units, which multiplies each digit of the
-- current section
abbrev pub top_exponent : List OpenEntry → ℕ
top_exponent [] = 0
top_exponent (top ∷ units) = top.1

-- the rank on top
abbrev pub rank_on_top : List OpenEntry → Option ℕ
rank_on_top [] = None
rank_on_top (top ∷ units) = Some top.0

-- a unit of this rank is smaller than the one on top, or no unit is open
abbrev pub is_below_top : ℕ → List OpenEntry → Bool
is_below_top rank units = option_map_or (λ top. nat_lt rank top) (rank_on_top units) true

-- the unit on top is smaller than this rank
abbrev pub has_smaller_top : ℕ → List OpenEntry → Bool
has_smaller_top rank units = option_map_or (λ top. nat_lt top rank) (rank_on_top units) false

-- the open units that are left after those below a rank are removed from the top
abbrev pub not_smaller : ℕ → List OpenEntry → List OpenEntry
not_smaller limit [] = []
not_smaller limit (top ∷ units) =
    if nat_lt top.0 limit then not_smaller limit units else top ∷ units

abbrev pub no_entry : OpenExponent
no_entry = record { unit = Ge; exponent = 0 }

abbrev pub entry_at : OpenExponent → OpenEntry
entry_at entry = (rank entry.unit, entry.exponent)

-- the open units in the first `len` entries, the last of them first
abbrev pub entries_of : List OpenExponent → ℕ → List OpenEntry
entries_of entries len = stacked entry_at no_entry entries len

-- the rank of the least unit that closes a section: 萬, except that under `Low`, where each unit is
-- ten times the one before, no unit closes one
abbrev pub closing_rank : ChineseCountMethod → ℕ
closing_rank Low = 16
closing_rank method = 4

-- the record units: the last unit of the section, if it is above 個, and then the units that close
-- sections
abbrev pub with_last : ℕ → List ℕ → List ℕ
with_last last ranks = if last == 0 then ranks else last ∷ ranks

-- the mark is a digit or a unit above 個
abbrev pub is_regular_mark : Mark → Bool
is_regular_mark (digit number) = true
is_regular_mark (unit rank) = nat_lt 0 rank && nat_lt rank 16
is_regular_mark other = false

-- adding this mark before the list does not make the last mark a tail
abbrev pub LeavesNoTail : Mark → List Mark → Type 0
LeavesNoTail mark (last ∷ []) = is_tail mark last ≡ false
LeavesNoTail mark marks = Unit {0}

-- the state of the walk after these marks: they are regular and keep all rules, and their value is
-- the total so far plus the section's sum times the product of the scales of the open units
pub record IsRegular (method : ChineseCountMethod) (marks : List Mark) (units : List OpenEntry)
    (total sum last : ℕ) (at_digit : Bool) : Type 0 where
  pub regular : list_all is_regular_mark marks ≡ true
  pub rules : each_may_precede marks ≡ true
  pub fit : some_unfit method marks ≡ false
  pub number : value method marks
      ≡ total + sum * 10 ^ exponents method (records_from (closing_rank method) marks)
  pub records : record_units marks ≡ with_last last (records_from (closing_rank method) marks)
  pub entries_are : units ≡ entries_for method (records_from (closing_rank method) marks)
  pub after_digit : at_digit ≡ starts_with_digit marks
  pub low : last < closing_rank method
  pub plain_end : HasNoTail marks

-- a unit of this rank may close a section before these marks, and `left` are the units that are
-- then open
pub record MayOpen (method : ChineseCountMethod) (marks : List Mark) (left : List OpenEntry)
    (rank : ℕ) : Type 0 where
  pub left_are : left ≡ entries_for method (records_from (rank + 1) marks)
  pub precedes : may_precede (unit rank) marks ≡ true

abbrev pub StandsRegular : ChineseCountMethod → List Mark → List OpenEntry → QuickState → Type 0
StandsRegular method marks units state =
    IsRegular method marks units state.total state.sum (rank state.last) state.at_digit
