-- What a walk from the right has computed after a suffix of a list: the sum of the digits since the
-- last unit, and the units that are still open.
use Rattle.std.specs.Prelude.{◌≡◌, ℕ, suc, ◌+◌, ◌*◌, ◌/◌, ◌^◌, ◌≤◌, ◌⊎◌, ◌++◌, length, Bool, true, false, Result, Ok, Err, ◌&&◌, ◌||◌, ◌==◌, nat_lt, List, [], ◌∷◌, Option, Some, None, if◌then◌else◌}
use Rattle.cn_core.specs.declared.method.ChineseCountMethod.{ChineseCountMethod}
use Rattle.cn_core.specs.Mark.{Mark, digit, unit, other}
use Rattle.cn_core.specs.Characters.{rank}
use Rattle.cn_core.specs.Scale.{scale}
use Rattle.cn_core.specs.Numeral.{may_precede, is_numeral, with_first_digit}
use Rattle.cn_core.specs.Value.{value}
use Rattle.cn_core.specs.Place.{is_overflowing, is_tail, is_unfit}
use Rattle.cn_core.specs.Refusal.{Refusal, incorrect_at, too_large}
use Rattle.cn_judge.specs.Private.Stack.{StackEntry, closed_sum, still_open}
use Rattle.cn_judge.specs.declared.mark.Mark.{Mark as ReadMark}
use Rattle.cn_judge.specs.declared.mark.Mark.TheVariants.{Digit, Unit}
use Rattle.cn_judge.specs.declared.walk.Fault.{Fault}
use Rattle.cn_judge.specs.declared.walk.Fault.TheVariants.{Incorrect, TooLarge}
use Rattle.std.specs.Option.{option_map_or}

-- the sum of the digits before the first unit of the list
abbrev pub sum_of : List Mark → ℕ
sum_of [] = 0
sum_of (digit value ∷ rest) = sum_of rest + value
sum_of (unit rank ∷ rest) = 0
sum_of (other ∷ rest) = sum_of rest

-- the units that are open after this suffix, the last one opened first, each with its scale and the
-- sum below it when it was opened
abbrev pub opens_of : ChineseCountMethod → List Mark → List StackEntry
opens_of method [] = []
opens_of method (unit rank ∷ rest) =
    (rank, scale method rank, closed_sum (rank + 1) (sum_of rest) (opens_of method rest))
    ∷ still_open (rank + 1) (opens_of method rest)
opens_of method (mark ∷ rest) = opens_of method rest

-- the fault of a mark, if there is none to its right; places are counted from the mark
abbrev pub fault_of : ChineseCountMethod → Mark → List Mark → Option Refusal
fault_of method mark rest =
    if is_overflowing method mark rest then Some too_large
    else (if may_precede mark rest then (if is_unfit method mark then Some too_large else None)
    else Some (incorrect_at 0))

-- the same refusal, one place further to the right
abbrev pub further : Refusal → Refusal
further (incorrect_at place) = incorrect_at (suc place)
further refusal = refusal

abbrev pub further_or : Option Refusal → Option Refusal → Option Refusal
further_or (Some refusal) fault = Some (further refusal)
further_or None fault = fault

-- the first fault that a walk from the right finds
abbrev pub faults : ChineseCountMethod → List Mark → Option Refusal
faults method [] = None
faults method (mark ∷ rest) = further_or (faults method rest) (fault_of method mark rest)

-- the rank of the first mark, if that is a unit
abbrev pub leading_rank : List Mark → Option ℕ
leading_rank (unit rank ∷ rest) = Some rank
leading_rank marks = None

-- a unit of this rank may be directly before the unit `after`, or there is no such unit
abbrev pub multiplies_by : ℕ → Option ℕ → Bool
multiplies_by rank after =
    option_map_or (λ next. nat_lt rank next || (rank == 1 && next == 0)) after true

-- the mark that was read last is a digit
abbrev pub digit_next : Option ReadMark → Bool
digit_next (Some (Digit value)) = true
digit_next next = false

-- the rank of the mark that was read last, if it is a unit
abbrev pub unit_next : Option ReadMark → Option ℕ
unit_next (Some (Unit which)) = Some (rank which)
unit_next next = None

-- the refusal of a fault, at place 0
abbrev pub fault_refusal : Fault → Refusal
fault_refusal Incorrect = incorrect_at 0
fault_refusal TooLarge = too_large

-- the answer to a number: the number itself if it fits 128 bits
abbrev pub number_answer : ℕ → Result ℕ Refusal
number_answer number = if nat_lt number (2 ^ 128) then Ok number else Err too_large

-- the answer at the first mark, if there is no fault to its right
abbrev pub front_answer : ChineseCountMethod → Mark → List Mark → Result ℕ Refusal
front_answer method mark rest =
    if is_numeral (mark ∷ rest) then number_answer (value method (with_first_digit (mark ∷ rest)))
    else Err (incorrect_at 0)

abbrev pub fault_or : Option Refusal → Result ℕ Refusal → Result ℕ Refusal
fault_or (Some refusal) answer = Err (further refusal)
fault_or None answer = answer

-- the answer to a text with a tail, from the answer to its body: the tail `last` is at `place`,
-- after a unit of this rank
abbrev pub tail_answer : ChineseCountMethod → ℕ → ℕ → Mark → Result ℕ Refusal → Result ℕ Refusal
tail_answer method place rank last (Err refusal) = Err refusal
tail_answer method place rank (digit number) (Ok before) =
    number_answer (before + number * scale method rank / 10)
tail_answer method place rank last (Ok before) = Err (incorrect_at place)

-- the answer to a text that has no tail
abbrev pub walked_answer : ChineseCountMethod → Mark → List Mark → Result ℕ Refusal
walked_answer method mark rest = fault_or (faults method rest) (front_answer method mark rest)

-- the marks have no tail
abbrev pub HasNoTail : List Mark → Type 0
HasNoTail marks =
    (length marks ≤ 1)
    ⊎ ((front : List Mark) × (second : Mark) × (last : Mark)
    × (marks ≡ front ++ second ∷ last ∷ []) × (is_tail second last ≡ false))

-- the marks are `before`, which ends with a unit of this rank, and the tail `last`
abbrev pub HasTail : List Mark → List Mark → ℕ → Mark → Type 0
HasTail marks before rank last =
    (marks ≡ before ++ last ∷ []) × ((front : List Mark) × (before ≡ front ++ unit rank ∷ []))
    × (is_tail (unit rank) last ≡ true)
