-- The tables of units have the rank of each power.
use Rattle.std.proofs.Common.{◌≡◌, ℕ, zero, suc, ◌+◌, ◌<◌, Bool, true, ◌==◌, ◌&&◌, List, [], ◌∷◌, length, slice_index_or, ap, ◌∙◌, arith}
use Rattle.std.proofs.lemmas.Bool.Decides.{nat_tests}
use Rattle.cn_core.specs.declared.unit.Unit.{Unit as NumeralUnit}
use Rattle.cn_core.specs.Characters.{rank}
use Rattle.cn_core.proofs.Fronts.{and-left, and-right}

-- the ranks of the units are those of the powers from `first` on
abbrev pub has_ranks : (ℕ → ℕ) → ℕ → List NumeralUnit → Bool
has_ranks rank_of first [] = true
has_ranks rank_of first (unit ∷ units) =
    (rank unit == rank_of first) && has_ranks rank_of (first + 1) units

pub rank-at : (rank_of : ℕ → ℕ) (units : List NumeralUnit) (first power : ℕ)
    (default : NumeralUnit) → has_ranks rank_of first units ≡ true → power < length units
    → rank (slice_index_or units power default) ≡ rank_of (first + power)
rank-at rank_of [] first power default h less = absurd (omega (arith, less))
rank-at rank_of (unit ∷ units) first zero default h less =
    let t : (rank unit == rank_of first) ≡ true = and-left (rank unit == rank_of first) _ h in
    let e : first + 0 ≡ first = omega arith in
    rw e (grind (arith, nat_tests, t))
rank-at rank_of (unit ∷ units) first (suc power) default h less =
    let e : first + suc power ≡ first + 1 + power = omega arith in
    rw e (rank-at rank_of units (first + 1) power default
    (and-right (rank unit == rank_of first) _ h) (omega (arith, less)))

-- a table with these ranks has the rank of each power
pub rank-in : (rank_of : ℕ → ℕ) (units : List NumeralUnit) (power count : ℕ)
    (default : NumeralUnit) → power < count → has_ranks rank_of 0 units ≡ true
    → length units ≡ count
    → rank (slice_index_or units power default) ≡ rank_of power
rank-in rank_of units power count default less h size =
    let e : 0 + power ≡ power = omega arith in
    rank-at rank_of units 0 power default h (omega (arith, less, size)) ∙ ap rank_of e
