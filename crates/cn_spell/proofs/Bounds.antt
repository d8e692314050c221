-- The lengths of the texts of the numbers that a method writes.
use Rattle.std.proofs.Common.{◌≡◌, ◌+◌, ◌*◌, ◌^◌, ◌<◌, ◌≤◌, ℕ, ℤ, pos, nat_abs, Bool, true, length, refl, arith}
use Rattle.std.proofs.lemmas.Bool.Decides.{nat_tests}
use Rattle.cn_core.specs.declared.script.ChineseVariant.{ChineseVariant}
use Rattle.cn_core.specs.declared.case.ChineseCase.{ChineseCase}
use Rattle.cn_core.specs.declared.method.ChineseCountMethod.{ChineseCountMethod}
use Rattle.cn_core.specs.declared.method.ChineseCountMethod.TheVariants.{Low, TenThousand, Middle, High}
use Rattle.cn_core.specs.Spelling.{spelling}
use Rattle.cn_core.specs.Printing.{is_printable, signed_text}
use Rattle.cn_core.proofs.Lengths.{length-spelling}
use Rattle.cn_spell.specs.Prints.{most_bytes}
use Rattle.cn_spell.specs.Working.Units.{powers_within}
use Rattle.cn_spell.proofs.Signs.{length-signed, sign-one}
use Rattle.cn_spell.proofs.SpelledMarks.{below_square}

-- the number has few enough digits for the method's units
pub fits : (method : ChineseCountMethod) (number : ℤ) → is_printable method number ≡ true
    → nat_abs number < 2 ^ 128 → nat_abs number < 10 ^ powers_within method
fits Low number printable small = grind (arith, nat_tests, printable)
fits TenThousand number printable small = omega (arith, small)
fits Middle number printable small = omega (arith, small)
fits High number printable small = omega (arith, small)

some-powers : (method : ChineseCountMethod) → 1 ≤ powers_within method
some-powers Low = omega arith
some-powers TenThousand = omega arith
some-powers Middle = omega arith
some-powers High = omega arith

-- the marks of its spelling and its sign fit the most bytes
pub marks-fit : (method : ChineseCountMethod) (number : ℤ) → is_printable method number ≡ true
    → nat_abs number < 2 ^ 128 → 3 * (length (spelling method (nat_abs number)) + 1)
    ≤ most_bytes method
marks-fit method number printable small =
    let less = fits method number printable small in
    let marks = length-spelling method (nat_abs number) (powers_within method) (some-powers method)
    less (below_square method number small printable) in
    omega (arith, marks, bytes method) where
      bytes : (method : ChineseCountMethod) → 6 * powers_within method ≤ most_bytes method
      bytes Low = omega arith
      bytes TenThousand = omega arith
      bytes Middle = omega arith
      bytes High = omega arith

pub most_bytes-le : (method : ChineseCountMethod) → most_bytes method ≤ 234
most_bytes-le Low = omega arith
most_bytes-le TenThousand = omega arith
most_bytes-le Middle = omega arith
most_bytes-le High = omega arith

-- if a method writes a number, it writes its magnitude
pub printable : (method : ChineseCountMethod) (number : ℤ) (magnitude : ℕ)
    → magnitude ≡ nat_abs number → is_printable method number ≡ true
    → is_printable method (pos magnitude) ≡ true
printable Low number magnitude same h = rw same h
printable TenThousand number magnitude same h = refl
printable Middle number magnitude same h = refl
printable High number magnitude same h = refl

-- the marks and the sign of a magnitude that the method writes
pub spelled-fits : (method : ChineseCountMethod) (variant : ChineseVariant) (case : ChineseCase)
    (negative : Bool) (magnitude : ℕ) → is_printable method (pos magnitude) ≡ true
    → magnitude < 2 ^ 128
    → 3 * length (signed_text variant case negative (spelling method magnitude))
    ≤ most_bytes method
spelled-fits method variant case negative magnitude printable small =
    omega (
      arith,
      length-signed variant case negative (spelling method magnitude),
      sign-one negative,
      marks-fit method (pos magnitude) printable small,
    )
