-- The minus sign of a number below zero.
use Rattle.std.proofs.Common.{◌≡◌, ◌↔◌, ◌+◌, ◌≤◌, ℕ, nat_abs, ap₂, ◌∙◌, ℤ, pos, negsuc, ◌<ℤ◌, int_lt, Bool, true, false, IsTrue, nat_lt, List, length, if◌then◌else◌, refl, sym, arith}
use Rattle.std.proofs.lemmas.List.{length-map}
use Rattle.std.proofs.lemmas.Bool.Decides.{nat_tests}
use Rattle.std.proofs.lemmas.Int.{ints}
use Rattle.cn_core.specs.declared.script.ChineseVariant.{ChineseVariant}
use Rattle.cn_core.specs.declared.case.ChineseCase.{ChineseCase}
use Rattle.cn_core.specs.Mark.{Mark}
use Rattle.cn_core.specs.Printing.{mark_char, signed_text}

-- the test for a number below zero
pub negative-is : (negative : Bool) (number : ℤ) → (IsTrue negative ↔ (number <ℤ pos 0))
    → negative ≡ int_lt number (pos 0)
negative-is true (pos n) h = absurd (omega (arith, ints, h.0 refl))
negative-is false (pos n) h = let none : nat_lt n 0 ≡ false = grind (arith, nat_tests) in sym none
negative-is true (negsuc n) h = refl
negative-is false (negsuc n) h = h.1 (search (arith, ints))

-- the text of a number, from its sign and the marks of its magnitude
pub signed-is : (marks : ℕ → List Mark) (variant used : ChineseVariant) (case other : ChineseCase) (negative : Bool) (magnitude : ℕ) (number : ℤ)
    → used ≡ variant → other ≡ case → (IsTrue negative ↔ (number <ℤ pos 0)) → magnitude ≡ nat_abs number
    → signed_text used other negative (marks magnitude) ≡ signed_text variant case (int_lt number (pos 0)) (marks (nat_abs number))
signed-is marks variant used case other negative magnitude number v k below value =
    ap₂ (λ x y. signed_text x y negative (marks magnitude)) v k
    ∙ ap₂ (λ b n. signed_text variant case b (marks n)) (negative-is negative number below) value

-- the number of characters of a text, its sign included
pub length-signed : (variant : ChineseVariant) (case : ChineseCase) (negative : Bool)
    (marks : List Mark)
    → length (signed_text variant case negative marks) ≡ (if negative then 1 else 0) + length marks
length-signed variant case true marks = omega (arith, length-map marks (mark_char variant case))
length-signed variant case false marks = omega (arith, length-map marks (mark_char variant case))

-- a sign is at most one character
pub sign-one : (negative : Bool) → (if negative then 1 else 0) ≤ 1
sign-one true = omega arith
sign-one false = omega arith
