-- The state of a walk from right to left.
use Rattle.std.specs.Prelude.{◌≡◌, ℕ, List, Option, None}
use Rattle.cn_core.specs.declared.method.ChineseCountMethod.{ChineseCountMethod}
use Rattle.cn_core.specs.Numeral.{starts_with_digit}
use Rattle.cn_core.specs.Text.{marks_of}
use Rattle.cn_judge.specs.declared.mark.Mark.{Mark as ReadMark}
use Rattle.cn_judge.specs.Private.Stack.{StackEntry}
use Rattle.cn_judge.specs.Private.Walk.{sum_of, opens_of, faults, digit_next, unit_next, leading_rank}

-- the state after these characters, in which the walk found no fault: the sum of the digits since
-- the last unit, the units that are still open, and the mark that was read last
pub record IsWalked (method : ChineseCountMethod) (walked : List ℕ) (sum : ℕ)
    (units : List StackEntry) (next : Option ReadMark) : Type 0 where
  pub sum_is : sum ≡ sum_of (marks_of walked)
  pub units_are : units ≡ opens_of method (marks_of walked)
  pub after_digit : digit_next next ≡ starts_with_digit (marks_of walked)
  pub after_unit : unit_next next ≡ leading_rank (marks_of walked)
  pub sound : faults method (marks_of walked) ≡ None
