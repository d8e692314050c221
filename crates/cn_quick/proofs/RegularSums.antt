-- The weight of a digit in a regular numeral: the power of ten of its section times that of the
-- open units.
use Rattle.std.proofs.Common.{◌≡◌, ℕ, suc, ◌+◌, ◌*◌, ◌^◌, ◌<◌, ◌≤◌, Bool, true, false, ◌==◌, nat_le, nat_lt, List, [], ◌∷◌, length, map, find, refl, sym, ap, ◌∙◌, arith, if◌then◌else◌}
use Rattle.std.specs.Option.{option_map_or}
use Rattle.std.proofs.lemmas.Bool.Decides.{nat_tests}
use Rattle.std.proofs.lemmas.Nat.{pow-add}
use Rattle.cn_core.specs.declared.method.ChineseCountMethod.{ChineseCountMethod}
use Rattle.cn_core.specs.declared.method.ChineseCountMethod.TheVariants.{Low, TenThousand, Middle, High}
use Rattle.cn_core.specs.Mark.{Mark, digit, unit, other}
use Rattle.cn_core.specs.Scale.{scale, exponent}
use Rattle.cn_core.specs.Value.{product, records_from}
use Rattle.cn_quick.specs.Private.Regular.{exponents, entries_for, top_exponent, is_below_top, not_smaller, closing_rank, with_last}
use Rattle.cn_judge.proofs.OpenSums.{from_rank, records-left}

-- the product of the scales of some ranks is a power of ten
product-exponents : (method : ChineseCountMethod) (ranks : List ℕ)
    → product (map (scale method) ranks) ≡ 10 ^ exponents method ranks
product-exponents method [] = refl
product-exponents method (rank ∷ ranks) =
    ap (λ n. scale method rank * n) (product-exponents method ranks)
    ∙ sym (pow-add 10 (exponent method rank) (exponents method ranks))

-- the exponent of a unit of a section is its rank
pub exponent-small : (method : ChineseCountMethod) (rank : ℕ) → rank < closing_rank method
    → exponent method rank ≡ rank
exponent-small Low rank h = refl
exponent-small TenThousand rank h = let t : nat_le rank 4 ≡ true = grind (arith, nat_tests) in rw t
exponent-small Middle rank h = let t : nat_le rank 4 ≡ true = grind (arith, nat_tests) in rw t
exponent-small High rank h = let t : nat_le rank 4 ≡ true = grind (arith, nat_tests) in rw t

pub closing_rank-within : (method : ChineseCountMethod)
    → (0 < closing_rank method) × (closing_rank method ≤ 16)
closing_rank-within Low = (omega arith, omega arith)
closing_rank-within TenThousand = (omega arith, omega arith)
closing_rank-within Middle = (omega arith, omega arith)
closing_rank-within High = (omega arith, omega arith)

pub product-last : (method : ChineseCountMethod) (last : ℕ) (ranks : List ℕ)
    → last < closing_rank method
    → product (map (scale method) (with_last last ranks)) ≡ 10 ^ last * 10 ^ exponents method ranks
product-last method last ranks low = by (last == 0) refl where
  by : (b : Bool) → (last == 0) ≡ b → product (map (scale method)
      (if b then ranks else last ∷ ranks)) ≡ 10 ^ last * 10 ^ exponents method ranks
  by true e =
      let none : last ≡ 0 = grind (arith, nat_tests) in
      let all = product-exponents method ranks in rw (none, all) (omega arith)
  by false e =
      let all = product-exponents method ranks in
      let small : exponent method last ≡ last = exponent-small method last low in
      rw (all, small)

-- the open units by their ranks
pub length-for : (method : ChineseCountMethod) (ranks : List ℕ)
    → length (entries_for method ranks) ≡ length ranks
length-for method [] = refl
length-for method (rank ∷ ranks) = ap suc (length-for method ranks)

pub top-for : (method : ChineseCountMethod) (ranks : List ℕ)
    → top_exponent (entries_for method ranks) ≡ exponents method ranks
top-for method [] = refl
top-for method (rank ∷ ranks) = refl

pub left-for : (method : ChineseCountMethod) (limit : ℕ) (ranks : List ℕ)
    → not_smaller limit (entries_for method ranks) ≡ entries_for method (from_rank limit ranks)
left-for method limit [] = refl
left-for method limit (rank ∷ ranks) = by (nat_lt rank limit) (left-for method limit ranks) where
  by : (b : Bool) → not_smaller limit (entries_for method ranks)
      ≡ entries_for method (from_rank limit ranks)
      → (if b then not_smaller limit (entries_for method ranks)
      else (rank, exponents method (rank ∷ ranks)) ∷ entries_for method ranks)
      ≡ entries_for method (if b then from_rank limit ranks else rank ∷ ranks)
  by true ih = ih
  by false ih = refl

-- the first of these ranks is greater than `rank`, or there is none
abbrev pub is_first : ℕ → List ℕ → Bool
is_first rank [] = true
is_first rank (next ∷ ranks) = nat_lt rank next

pub first-for : (method : ChineseCountMethod) (rank : ℕ) (ranks : List ℕ)
    → is_below_top rank (entries_for method ranks) ≡ is_first rank ranks
first-for method rank [] = refl
first-for method rank (next ∷ ranks) = refl

pub first-strict : (rank : ℕ) (ranks : List ℕ)
    → option_map_or (λ next. nat_lt rank next) (find (λ next. nat_le rank next) ranks) true
    ≡ is_first rank (from_rank rank ranks)
first-strict rank [] = refl
first-strict rank (next ∷ ranks) = grind (arith, nat_tests, first-strict rank ranks)

pub first-left : (rank : ℕ) (ranks : List ℕ) → is_first rank ranks ≡ true
    → from_rank rank ranks ≡ ranks
first-left rank [] h = refl
first-left rank (next ∷ ranks) h = grind (arith, nat_tests, h)

pub next-left : (rank : ℕ) (ranks : List ℕ) → is_first rank (from_rank rank ranks) ≡ true
    → from_rank (rank + 1) ranks ≡ from_rank rank ranks
next-left rank [] h = refl
next-left rank (next ∷ ranks) h = grind (arith, nat_tests, h, next-left rank ranks)

pub last-left : (rank last : ℕ) (ranks : List ℕ) → last < rank
    → from_rank rank (with_last last ranks) ≡ from_rank rank ranks
last-left rank last ranks low = grind (arith, nat_tests)

-- the records from a rank on are greater than each rank below it
pub records-first : (rank least : ℕ) (marks : List Mark) → rank < least
    → is_first rank (records_from least marks) ≡ true
records-first rank least [] h = refl
records-first rank least (digit value ∷ rest) h = records-first rank least rest h
records-first rank least (other ∷ rest) h = records-first rank least rest h
records-first rank least (unit next ∷ rest) h =
    grind (arith, nat_tests, records-first rank least rest h)

-- the records with one more unit
pub records-unit : (rank : ℕ) (marks : List Mark)
    → records_from 0 (unit rank ∷ marks) ≡ rank ∷ records_from (rank + 1) marks
records-unit rank marks = grind (arith, nat_tests)

pub records-great : (least rank : ℕ) (marks : List Mark) → least ≤ rank
    → records_from least (unit rank ∷ marks) ≡ rank ∷ records_from (rank + 1) marks
records-great least rank marks h = grind (arith, nat_tests)

pub records-small : (least rank : ℕ) (marks : List Mark) → rank < least
    → records_from least (unit rank ∷ marks) ≡ records_from least marks
records-small least rank marks h = grind (arith, nat_tests)

-- the records above a unit
pub records-above : (least rank last : ℕ) (marks : List Mark)
    → records_from 0 marks ≡ with_last last (records_from least marks) → last < rank + 1
    → records_from (rank + 1) marks ≡ from_rank (rank + 1) (records_from least marks)
records-above least rank last marks records low =
    sym (records-left 0 (rank + 1) marks (omega arith)) ∙ ap (from_rank (rank + 1)) records
    ∙ last-left (rank + 1) last (records_from least marks) low

pub records-above_small : (least rank : ℕ) (marks : List Mark) → rank < least
    → from_rank (rank + 1) (records_from least marks) ≡ records_from least marks
records-above_small least rank marks low =
    let first = records-first rank least marks low in
    let same = first-left rank (records_from least marks) first in
    next-left rank (records_from least marks) (ap (is_first rank) same ∙ first) ∙ same
