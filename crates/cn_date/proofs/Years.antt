-- The figures of a year.
use Rattle.std.proofs.Common.{◌≡◌, ℕ, zero, suc, ◌+◌, ◌*◌, ◌/◌, ◌%◌, ◌^◌, ◌==◌, ◌<◌, Bool, true, false, List, [], ◌∷◌, ◌++◌, refl, sym, ap, ap₂, ◌∙◌, if◌then◌else◌, arith}
use Rattle.std.proofs.lemmas.Bool.Decides.{nat_tests}
use Rattle.cn_date.specs.declared.capital.Capital.{Capital}
use Rattle.cn_date.specs.declared.capital.Capital.TheVariants.{Digit}
use Rattle.cn_date.specs.Form.{figures, year_text}

if-true : (b : Bool) (x y : List Capital) → b ≡ true → (if b then x else y) ≡ x
if-true true x y e = refl
if-true false x y e = absurd (cc)

if-false : (b : Bool) (x y : List Capital) → b ≡ false → (if b then x else y) ≡ y
if-false false x y e = refl
if-false true x y e = absurd (cc)

pub not-zero : (n : ℕ) → 0 < n → (n == 0) ≡ false
not-zero n some = grind (arith, nat_tests)

pub figures-more : (count n : ℕ) → 0 < n
    → figures (suc count) n ≡ figures count (n / 10) ++ Digit (n % 10) ∷ []
figures-more count n some = if-false (n == 0) [] _ (not-zero n some)

-- there is no zero before the figures
same-figures : (count n : ℕ) → n < 10 ^ count → figures (suc count) n ≡ figures count n
same-figures zero zero low = refl
same-figures zero (suc n) low = absurd (omega (arith, low))
same-figures (suc count) zero low = refl
same-figures (suc count) (suc n) low =
    figures-more (suc count) (suc n) (omega arith)
    ∙ ap (λ front. front ++ Digit (suc n % 10) ∷ []) (same-figures count (suc n / 10)
    (omega (arith, low)))
    ∙ sym (figures-more count (suc n) (omega arith))

pub year_snoc : (year : ℕ) → 0 < year → year < 10000
    → year_text year ≡ year_text (year / 10) ++ Digit (year % 10) ∷ []
year_snoc year some low = figures-more 3 year some
    ∙ ap (λ front. front ++ Digit (year % 10) ∷ []) (sym (same-figures 3 (year / 10)
    (omega (arith, low))))

pub year_more : (year digit : ℕ) → year < 1000 → digit < 10 → 0 < 10 * year + digit
    → year_text (10 * year + digit) ≡ year_text year ++ Digit digit ∷ []
year_more year digit low one some =
    let front : (10 * year + digit) / 10 ≡ year = omega (arith, one) in
    let last : (10 * year + digit) % 10 ≡ digit = omega (arith, one) in
    year_snoc (10 * year + digit) some (omega (arith, low, one))
    ∙ ap₂ (λ front last. year_text front ++ Digit last ∷ []) front last
