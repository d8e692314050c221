-- The three facts about a walk from the right: its open units, its sum and its groups.
use Rattle.std.proofs.Common.{◌≡◌, ℕ, ◌+◌, ◌*◌, ◌≤◌, Bool, true, false, nat_le, nat_lt, List, [], ◌∷◌, map, take_while, find, refl, sym, ap, ◌∙◌, arith, if◌then◌else◌}
use Rattle.std.proofs.lemmas.Bool.Decides.{nat_tests}
use Rattle.std.proofs.lemmas.List.Sums.{take_while-cons}
use Rattle.cn_core.specs.declared.method.ChineseCountMethod.{ChineseCountMethod}
use Rattle.cn_core.specs.Mark.{Mark, digit, unit, other}
use Rattle.cn_core.specs.Numeral.{first_not_smaller}
use Rattle.cn_core.specs.Place.{is_below}
use Rattle.cn_core.specs.Scale.{scale}
use Rattle.cn_core.specs.Value.{value, product, records_from}
use Rattle.cn_judge.specs.Private.Walk.{sum_of, opens_of}
use Rattle.cn_judge.specs.Private.Stack.{StackEntry, closed_sum, still_open, total_sum, top_of}
use Rattle.cn_judge.proofs.Stacks.{total-grows, positive-opens, positive-left}
use Rattle.cn_core.proofs.OpenUnits.{first_not_smaller-record}

abbrev pub ranks_of : List StackEntry → List ℕ
ranks_of opens = map (λ top. top.0) opens

-- the records from a rank on
abbrev pub from_rank : ℕ → List ℕ → List ℕ
from_rank limit [] = []
from_rank limit (rank ∷ ranks) = if nat_lt rank limit then from_rank limit ranks else rank ∷ ranks

pub records-left : (least limit : ℕ) (marks : List Mark) → least ≤ limit
    → from_rank limit (records_from least marks) ≡ records_from limit marks
records-left least limit [] h = refl
records-left least limit (digit value ∷ rest) h = records-left least limit rest h
records-left least limit (other ∷ rest) h = records-left least limit rest h
records-left least limit (unit rank ∷ rest) h =
    grind (arith, nat_tests, records-left (rank + 1) limit rest, records-left least limit rest h)

left-ranks : (limit : ℕ) (opens : List StackEntry)
    → ranks_of (still_open limit opens) ≡ from_rank limit (ranks_of opens)
left-ranks limit [] = refl
left-ranks limit (top ∷ opens) = grind (arith, nat_tests, left-ranks limit opens)

-- the open units are the record units, the nearest first
pub opens-records : (method : ChineseCountMethod) (marks : List Mark)
    → ranks_of (opens_of method marks) ≡ records_from 0 marks
opens-records method [] = refl
opens-records method (digit value ∷ rest) = opens-records method rest
opens-records method (other ∷ rest) = opens-records method rest
opens-records method (unit rank ∷ rest) =
    ap (λ ranks. rank ∷ ranks)
    (left-ranks (rank + 1) (opens_of method rest)
    ∙ ap (from_rank (rank + 1)) (opens-records method rest)
    ∙ records-left 0 (rank + 1) rest (omega arith))
    ∙ grind (arith, nat_tests)

-- each open unit has its scale
abbrev pub AreScaled : ChineseCountMethod → List StackEntry → Type 0
AreScaled method [] = Unit {0}
AreScaled method (top ∷ opens) = (top.1 ≡ scale method top.0) × AreScaled method opens

scaled-left : (method : ChineseCountMethod) (limit : ℕ) (opens : List StackEntry)
    → AreScaled method opens → AreScaled method (still_open limit opens)
scaled-left method limit [] h = h
scaled-left method limit (top ∷ opens) h =
    by (nat_lt top.0 limit) (scaled-left method limit opens (h.1)) where
      by : (b : Bool) → AreScaled method (still_open limit opens)
          → AreScaled method (if b then still_open limit opens else top ∷ opens)
      by true ih = ih
      by false ih = h

scaled-opens : (method : ChineseCountMethod) (marks : List Mark)
    → AreScaled method (opens_of method marks)
scaled-opens method [] = tt
scaled-opens method (digit value ∷ rest) = scaled-opens method rest
scaled-opens method (other ∷ rest) = scaled-opens method rest
scaled-opens method (unit rank ∷ rest) =
    (refl, scaled-left method (rank + 1) (opens_of method rest) (scaled-opens method rest))

-- a sum passes through the closing of all units
total-add : (method : ChineseCountMethod) (opens : List StackEntry) (sum more : ℕ)
    → AreScaled method opens
    → total_sum (sum + more) opens ≡ total_sum sum opens
    + more * product (map (scale method) (ranks_of opens))
total-add method [] sum more h = omega arith
total-add method (top ∷ opens) sum more h =
    let ih = total-add method opens (sum * top.1 + top.2) (more * top.1) (h.1) in
    let same : (sum + more) * top.1 + top.2 ≡ sum * top.1 + top.2 + more * top.1 = grind arith in
    rw (same, ih, ← (h.0)) (grind arith)

total-closed : (limit : ℕ) (opens : List StackEntry) (sum : ℕ)
    → total_sum (closed_sum limit sum opens) (still_open limit opens) ≡ total_sum sum opens
total-closed limit [] sum = refl
total-closed limit (top ∷ opens) sum =
    grind (arith, nat_tests, total-closed limit opens (sum * top.1 + top.2))

-- closing all units gives the value of the marks
pub total-value : (method : ChineseCountMethod) (marks : List Mark)
    → total_sum (sum_of marks) (opens_of method marks) ≡ value method marks
total-value method [] = refl
total-value method (digit number ∷ rest) =
    let ih = total-value method rest in
    let add = total-add method (opens_of method rest) (sum_of rest) number
    (scaled-opens method rest) in
    rw (add, ih, opens-records method rest) (omega arith)
total-value method (other ∷ rest) = total-value method rest
total-value method (unit rank ∷ rest) =
    ap (λ sum. total_sum sum (still_open (rank + 1) (opens_of method rest))) (omega arith)
    ∙ total-closed (rank + 1) (opens_of method rest) (sum_of rest) ∙ total-value method rest

-- closing the units below one rank and then those below a higher rank is the same as closing the
-- latter at once
closed-closed : (low high : ℕ) (opens : List StackEntry) (sum : ℕ) → low ≤ high
    → closed_sum high (closed_sum low sum opens) (still_open low opens) ≡ closed_sum high sum opens
closed-closed low high [] sum h = refl
closed-closed low high (top ∷ opens) sum h =
    grind (arith, nat_tests, closed-closed low high opens (sum * top.1 + top.2) h)

-- the marks before the first unit that is not smaller than this rank
abbrev pub group : ℕ → List Mark → List Mark
group rank [] = []
group rank (mark ∷ rest) = if is_below rank mark then mark ∷ group rank rest else []

pub take_while-group : (rank : ℕ) (marks : List Mark)
    → take_while (is_below rank) marks ≡ group rank marks
take_while-group rank [] = refl
take_while-group rank (mark ∷ rest) = take_while-cons (is_below rank) mark rest
    ∙ ap (λ l. if is_below rank mark then mark ∷ l else []) (take_while-group rank rest)

-- the records below a rank
abbrev pub below_rank : ℕ → List ℕ → List ℕ
below_rank limit [] = []
below_rank limit (rank ∷ ranks) = if nat_lt rank limit then rank ∷ below_rank limit ranks else []

records-group : (least limit : ℕ) (marks : List Mark) → least ≤ limit
    → records_from least (group limit marks) ≡ below_rank limit (records_from least marks)
records-group least limit [] h = refl
records-group least limit (digit value ∷ rest) h = records-group least limit rest h
records-group least limit (other ∷ rest) h = records-group least limit rest h
records-group least limit (unit rank ∷ rest) h =
    grind (arith, nat_tests, records-group (rank + 1) limit rest, records-group least limit rest h)

closed-add : (method : ChineseCountMethod) (limit : ℕ) (opens : List StackEntry) (sum more : ℕ)
    → AreScaled method opens
    → closed_sum limit (sum + more) opens ≡ closed_sum limit sum opens
    + more * product (map (scale method) (below_rank limit (ranks_of opens)))
closed-add method limit [] sum more h = omega arith
closed-add method limit (top ∷ opens) sum more h =
    by (nat_lt top.0 limit) (closed-add method limit opens (sum * top.1 + top.2) (more * top.1)
    (h.1)) where
      by : (b : Bool)
          → closed_sum limit (sum * top.1 + top.2 + more * top.1) opens
          ≡ closed_sum limit (sum * top.1 + top.2) opens
          + more * top.1 * product (map (scale method) (below_rank limit (ranks_of opens)))
          → (if b then closed_sum limit ((sum + more) * top.1 + top.2) opens else sum + more)
          ≡ (if b then closed_sum limit (sum * top.1 + top.2) opens else sum)
          + more * product (map (scale method)
          (if b then top.0 ∷ below_rank limit (ranks_of opens) else []))
      by true ih =
          let same : (sum + more) * top.1 + top.2 ≡ sum * top.1 + top.2 + more * top.1 =
          grind arith in
          rw (same, ih, ← (h.0)) (grind arith)
      by false ih = omega arith

-- closing the smaller units gives the value of the marks before the first unit that is not smaller
pub closed-group : (method : ChineseCountMethod) (limit : ℕ) (marks : List Mark)
    → closed_sum limit (sum_of marks) (opens_of method marks) ≡ value method (group limit marks)
closed-group method limit [] = refl
closed-group method limit (digit number ∷ rest) =
    let ih = closed-group method limit rest in
    let add = closed-add method limit (opens_of method rest) (sum_of rest) number
    (scaled-opens method rest) in
    rw (
      add,
      ih,
      opens-records method rest,
      ← records-group 0 limit rest (omega arith),
    ) (omega arith)
closed-group method limit (other ∷ rest) = closed-group method limit rest
closed-group method limit (unit rank ∷ rest) =
    by (nat_lt rank limit) refl (closed-group method limit rest) where
      by : (b : Bool) → nat_lt rank limit ≡ b
          → closed_sum limit (sum_of rest) (opens_of method rest) ≡ value method (group limit rest)
          → (if b then closed_sum limit (0 * scale method rank
          + closed_sum (rank + 1) (sum_of rest) (opens_of method rest)) (still_open (rank + 1)
          (opens_of method rest)) else 0)
          ≡ value method (if b then unit rank ∷ group limit rest else [])
      by true e ih =
          let none : 0 * scale method rank
          + closed_sum (rank + 1) (sum_of rest) (opens_of method rest)
          ≡ closed_sum (rank + 1) (sum_of rest) (opens_of method rest) = omega arith in
          let low : rank + 1 ≤ limit = grind (arith, nat_tests) in
          rw (none, closed-closed (rank + 1) limit (opens_of method rest) (sum_of rest) low) ih
      by false e ih = refl

-- the value of a group is at most that of the whole list
pub group-value : (method : ChineseCountMethod) (limit : ℕ) (marks : List Mark)
    → value method (group limit marks) ≤ value method marks
group-value method limit marks =
    let a = closed-group method limit marks in
    let b = total-closed limit (opens_of method marks) (sum_of marks) in
    let c = total-value method marks in
    let d = total-grows (still_open limit (opens_of method marks))
    (closed_sum limit (sum_of marks) (opens_of method marks)) (positive-left limit
    (opens_of method marks) (positive-opens method marks)) in
    omega (arith, a, b, c, d)

top-find : (limit : ℕ) (opens : List StackEntry)
    → find (λ next. nat_le limit next) (ranks_of opens) ≡ top_of (still_open limit opens)
top-find limit [] = refl
top-find limit (top ∷ opens) = by (nat_lt top.0 limit) refl (top-find limit opens) where
  by : (b : Bool) → nat_lt top.0 limit ≡ b
      → find (λ next. nat_le limit next) (ranks_of opens) ≡ top_of (still_open limit opens)
      → find (λ next. nat_le limit next) (top.0 ∷ ranks_of opens)
      ≡ top_of (if b then still_open limit opens else top ∷ opens)
  by true e ih = let t : nat_le limit top.0 ≡ false = grind (arith, nat_tests) in rw t ih
  by false e ih = let t : nat_le limit top.0 ≡ true = grind (arith, nat_tests) in rw t

-- the first unit that is not smaller is on top after the smaller units are closed
pub first_not_smaller-top : (method : ChineseCountMethod) (rank : ℕ) (marks : List Mark)
    → first_not_smaller rank marks ≡ top_of (still_open rank (opens_of method marks))
first_not_smaller-top method rank marks =
    first_not_smaller-record 0 rank marks (omega arith)
    ∙ ap (find (λ next. nat_le rank next)) (sym (opens-records method marks))
    ∙ top-find rank (opens_of method marks)
