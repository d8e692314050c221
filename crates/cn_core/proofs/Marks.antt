-- A test whether two marks are equal.
use Rattle.std.proofs.Common.{◌≡◌, ◌==◌, Bool, true, false, refl, ap, arith}
use Rattle.std.proofs.lemmas.Bool.Decides.{nat_tests}
use Rattle.cn_core.specs.Mark.{Mark, digit, unit, other}

abbrev pub same_mark : Mark → Mark → Bool
same_mark (digit a) (digit b) = a == b
same_mark (unit a) (unit b) = a == b
same_mark other other = true
same_mark a b = false

pub same_mark-is : (a b : Mark) → same_mark a b ≡ true → a ≡ b
same_mark-is (digit a) (digit b) h = let e : a ≡ b = grind (arith, nat_tests) in ap digit e
same_mark-is (unit a) (unit b) h = let e : a ≡ b = grind (arith, nat_tests) in ap unit e
same_mark-is other other h = refl
same_mark-is (digit a) (unit b) h = cc
same_mark-is (digit a) other h = cc
same_mark-is (unit a) (digit b) h = cc
same_mark-is (unit a) other h = cc
same_mark-is other (digit b) h = cc
same_mark-is other (unit b) h = cc
