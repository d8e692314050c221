-- The text of plain digits, from its lowest section up.
use Rattle.std.proofs.Common.{◌≡◌, ℕ, zero, suc, ◌+◌, ◌-◌, ◌*◌, ◌/◌, ◌^◌, ◌%◌, ◌<◌, ◌≤◌, max, if◌then◌else◌, Bool, true, false, List, [], ◌∷◌, ◌++◌, length, map, refl, sym, ap, ap₂, ◌∙◌, arith, length-append}
use Rattle.std.specs.Prelude.{decimal}
use Rattle.std.specs.List.{list_all}
use Rattle.std.proofs.Math.Nat.{div-div-eq-div-mul, one-le-pow, mul-le-mul_right, mod-lt}
use Rattle.std.proofs.lemmas.Nat.{pow-add, div-add-mod'}
use Rattle.std.proofs.lemmas.Fmt.{decimal_by_steps_wide, decimal_step_wide, decimal_digit, length-decimal-le_wide}
use Rattle.std.proofs.lemmas.List.{length-map, map-append}
use Rattle.std.proofs.lemmas.List.Folds.{list_all-append, list_all-map}
use Rattle.cn_core.specs.declared.script.ChineseVariant.{ChineseVariant}
use Rattle.cn_core.specs.declared.case.ChineseCase.{ChineseCase}
use Rattle.cn_core.specs.Characters.{digit_char}
use Rattle.cn_core.specs.Mark.{digit}
use Rattle.cn_core.specs.Naive.{decimal_digits}
use Rattle.cn_core.specs.Printing.{mark_char, signed_text}
use Rattle.cn_spell.specs.Working.Sections.{HoldsSections, lowest_marks}
use Rattle.cn_core.proofs.Characters.{takes_three, three-digit}
use Rattle.cn_spell.specs.Writes.{most_plain_bytes}
use Rattle.cn_spell.proofs.Signs.{length-signed, sign-one}
use Rattle.cn_spell.proofs.ThreeBytes.{three-minus}

length-lowest : (count number : ℕ) → length (lowest_marks count number) ≡ count
length-lowest zero number = refl
length-lowest (suc count) number = ap suc (length-lowest count number)

-- the four digits of a section, as two times two
pub lowest-four : (section : ℕ) → section < 10 ^ 4
    → digit (section / 100 / 10) ∷ digit (section / 100 % 10) ∷ digit (section % 100 / 10)
    ∷ digit (section % 100 % 10) ∷ [] ≡ lowest_marks 4 section
lowest-four section small =
    let a : section / 100 / 10 ≡ section / 10 ^ 3 % 10 = omega (arith, small) in
    let b : section / 100 % 10 ≡ section / 10 ^ 2 % 10 = omega arith in
    let d : section % 100 / 10 ≡ section / 10 ^ 1 % 10 = omega arith in
    let e : section % 100 % 10 ≡ section / 10 ^ 0 % 10 = omega arith in
    λ k. digit (a k) ∷ digit (b k) ∷ digit (d k) ∷ digit (e k) ∷ []

-- `count` digits above the lowest `lower` digits
lowest-over : (count lower number : ℕ)
    → lowest_marks count (number / 10 ^ lower) ++ lowest_marks lower number
    ≡ lowest_marks (count + lower) number
lowest-over zero lower number = let e : 0 + lower ≡ lower = omega arith in rw e refl
lowest-over (suc count) lower number =
    let step : suc count + lower ≡ suc (count + lower) = omega arith in
    let raised : 10 ^ lower * 10 ^ count ≡ 10 ^ (count + lower) =
    let e : count + lower ≡ lower + count = omega arith in rw e (sym (pow-add 10 lower count)) in
    let same : number / 10 ^ lower / 10 ^ count ≡ number / 10 ^ (count + lower) =
    div-div-eq-div-mul number (10 ^ lower) (10 ^ count) ∙ ap (λ n. number / n) raised in
    rw (step, same)
    (ap (λ rest. digit (number / 10 ^ (count + lower) % 10) ∷ rest)
    (lowest-over count lower number))

-- a section has the four lowest digits of the number
four-of : (number : ℕ) → lowest_marks 4 (number % 10 ^ 4) ≡ lowest_marks 4 number
four-of number =
    let d0 : number % 10000 / 1 % 10 ≡ number / 1 % 10 = omega arith in
    let d1 : number % 10000 / 10 % 10 ≡ number / 10 % 10 = omega arith in
    let d2 : number % 10000 / 100 % 10 ≡ number / 100 % 10 = omega arith in
    let d3 : number % 10000 / 1000 % 10 ≡ number / 1000 % 10 = omega arith in
    rw (d0, d1, d2, d3) refl

-- one more section
pub lowest-section : (number index section : ℕ) → section ≡ number / 10 ^ (4 * index) % 10 ^ 4
    → lowest_marks 4 section ++ lowest_marks (4 * index) number
    ≡ lowest_marks (4 * (index + 1)) number
lowest-section number index section is =
    let next : 4 + 4 * index ≡ 4 * (index + 1) = omega arith in
    ap (λ n. lowest_marks 4 n ++ lowest_marks (4 * index) number) is
    ∙ ap (λ marks. marks ++ lowest_marks (4 * index) number) (four-of (number / 10 ^ (4 * index)))
    ∙ lowest-over 4 (4 * index) number
    ∙ ap (λ n. lowest_marks n number) next

decimal_digits-step : (number : ℕ) → 10 ≤ number → number < 10 ^ 64
    → decimal_digits number ≡ decimal_digits (number / 10) ++ (digit (number % 10) ∷ [])
decimal_digits-step number ten small =
    let last : 48 + number % 10 - 48 ≡ number % 10 = omega arith in
    ap (map (λ byte. digit (byte - 48))) (decimal_step_wide number ten small)
    ∙ map-append (λ byte. digit (byte - 48)) (decimal (number / 10)) ((48 + number % 10) ∷ [])
    ∙ ap (λ n. decimal_digits (number / 10) ++ (digit n ∷ [])) last

-- a number has this many digits if it reaches the highest of them
decimal-lowest : (count number : ℕ) → number < 10 ^ suc count → (0 < count → 10 ^ count ≤ number)
    → number < 10 ^ 64 → decimal_digits number ≡ lowest_marks (suc count) number
decimal-lowest zero number less reach small =
    let low : number < 10 = omega (arith, less) in
    let only : 48 + number - 48 ≡ number / 1 % 10 = omega (arith, low) in
    ap (map (λ byte. digit (byte - 48))) (decimal_digit number low) ∙ ap (λ n. digit n ∷ []) only
decimal-lowest (suc count) number less reach small =
    let most : 10 ^ suc count ≤ number = reach (omega arith) in
    let one : 1 ≤ 10 ^ count = one-le-pow count 10 (omega arith) in
    let lower : 10 ^ suc count ≡ 10 * 10 ^ count = omega arith in
    let higher : 10 ^ suc (suc count) ≡ 10 * 10 ^ suc count = omega arith in
    let few : number / 10 < 10 ^ suc count = omega (arith, less, higher) in
    let rest = decimal-lowest count (number / 10) few (λ some. omega (arith, most, lower))
    (omega (arith, small)) in
    let sum : suc count + 1 ≡ suc (suc count) = omega arith in
    let last : number % 10 ≡ number / 1 % 10 = omega arith in
    decimal_digits-step number (omega (arith, most, one, lower)) small
    ∙ ap₂ (λ marks n. marks ++ (digit n ∷ [])) rest last
    ∙ lowest-over (suc count) 1 number
    ∙ ap (λ n. lowest_marks n number) sum

top-reach : (top count above : ℕ) → 10 ^ suc top ≤ 10 * max above 1 → (0 < count → 0 < above)
    → 0 < top + 4 * count → 10 ^ top ≤ above
top-reach zero count above reach some_above h =
    let some : 0 < above = some_above (omega (arith, h)) in omega (arith, some)
top-reach (suc top) count above reach some_above h =
    let one : 1 ≤ 10 ^ top = one-le-pow top 10 (omega arith) in
    let tenth : 10 ^ suc top ≡ 10 * 10 ^ top = omega arith in
    let higher : 10 ^ suc (suc top) ≡ 10 * 10 ^ suc top = omega arith in
    omega (arith, one, tenth, higher, reach)

-- the digits of a number, from its sections and the rest above them
pub decimal-sections : (number count above size : ℕ) {sections : List ℕ} → number < 10 ^ 39
    → HoldsSections number sections count above
    → 0 < size → above < 10 ^ size → 10 ^ size ≤ 10 * max above 1
    → decimal_digits number ≡ lowest_marks size above ++ lowest_marks (4 * count) number
decimal-sections number count above zero small held some less reach =
    absurd (omega (arith, some))
decimal-sections number count above (suc top) small held some less reach =
    let one : 1 ≤ 10 ^ (4 * count) = one-le-pow (4 * count) 10 (omega arith) in
    let rest : number % 10 ^ (4 * count) < 10 ^ (4 * count) = mod-lt number one in
    let whole : number ≡ above * 10 ^ (4 * count) + number % 10 ^ (4 * count) =
    sym (div-add-mod' number (10 ^ (4 * count)))
    ∙ ap (λ n. n * 10 ^ (4 * count) + number % 10 ^ (4 * count)) (sym held.split) in
    let raised : 10 ^ (suc top + 4 * count) ≡ 10 ^ suc top * 10 ^ (4 * count) =
    pow-add 10 (suc top) (4 * count) in
    let most : (above + 1) * 10 ^ (4 * count) ≤ 10 ^ suc top * 10 ^ (4 * count) =
    mul-le-mul_right (10 ^ (4 * count)) (omega (arith, less)) in
    let lower : 10 ^ (top + 4 * count) ≡ 10 ^ top * 10 ^ (4 * count) = pow-add 10 top (4 * count) in
    let tenth : 10 ^ suc top ≡ 10 * 10 ^ top = omega arith in
    let sum : suc top + 4 * count ≡ suc (top + 4 * count) = omega arith in
    let fits : number < 10 ^ suc (top + 4 * count) =
    let n : number < 10 ^ (suc top + 4 * count) = omega (arith, whole, rest, most, raised) in
    rw sum at n in
    let reaches : 0 < top + 4 * count → 10 ^ (top + 4 * count) ≤ number = λ h.
    let lead : 10 ^ top ≤ above = top-reach top count above reach held.some h in
    let least : 10 ^ top * 10 ^ (4 * count) ≤ above * 10 ^ (4 * count) =
    mul-le-mul_right (10 ^ (4 * count)) lead in
    omega (arith, least, lower, whole) in
    decimal-lowest (top + 4 * count) number fits reaches (omega (arith, small))
    ∙ sym (ap (λ n. lowest_marks (suc top) n ++ lowest_marks (4 * count) number) held.split
    ∙ lowest-over (suc top) (4 * count) number ∙ ap (λ n. lowest_marks n number) sum)

-- the number of characters of the text, its sign included
pub length-plain : (variant : ChineseVariant) (case : ChineseCase) (negative : Bool)
    (number count above size : ℕ) {sections : List ℕ} → number < 10 ^ 39
    → HoldsSections number sections count above
    → 0 < size → above < 10 ^ size → 10 ^ size ≤ 10 * max above 1
    → length (signed_text variant case negative (decimal_digits number))
    ≡ (if negative then 1 else 0) + (4 * count + size)
length-plain variant case negative number count above size small held some less reach =
    omega (
      arith,
      length-signed variant case negative (decimal_digits number),
      ap length (decimal-sections number count above size small held some less reach),
      length-append (lowest_marks size above) (lowest_marks (4 * count) number),
      length-lowest size above,
      length-lowest (4 * count) number,
    )

-- each of its characters is three bytes long
three-decimal : (variant : ChineseVariant) (case : ChineseCase) (number : ℕ) → number < 10 ^ 64 → list_all (λ byte. takes_three (digit_char variant case (byte - 48))) (decimal number) ≡ true
three-decimal variant case = decimal_by_steps_wide (λ number bytes. list_all (λ byte. takes_three (digit_char variant case (byte - 48))) bytes ≡ true) one more where
  one : (number : ℕ) → number < 10 → list_all (λ byte. takes_three (digit_char variant case (byte - 48))) ((48 + number) ∷ []) ≡ true
  one number small = let e : 48 + number - 48 ≡ number = omega arith in rw (e, three-digit variant case number small) refl

  more : (number : ℕ) (bytes : List ℕ) → 10 ≤ number → list_all (λ byte. takes_three (digit_char variant case (byte - 48))) bytes ≡ true
      → list_all (λ byte. takes_three (digit_char variant case (byte - 48))) (bytes ++ ((48 + number % 10) ∷ [])) ≡ true
  more number bytes ten rest =
      let last : 48 + number % 10 - 48 ≡ number % 10 = omega arith in
      rw (list_all-append (λ byte. takes_three (digit_char variant case (byte - 48))) bytes ((48 + number % 10) ∷ []), rest, last, three-digit variant case (number % 10) (omega arith)) refl

pub three-naive : (variant : ChineseVariant) (case : ChineseCase) (negative : Bool) (number : ℕ) → number < 10 ^ 64 → list_all takes_three (signed_text variant case negative (decimal_digits number)) ≡ true
three-naive variant case negative number small = by negative where
  digits : list_all takes_three (map (mark_char variant case) (decimal_digits number)) ≡ true
  digits =
      list_all-map takes_three (mark_char variant case) (decimal_digits number) ∙ list_all-map (λ mark. takes_three (mark_char variant case mark)) (λ byte. digit (byte - 48)) (decimal number)
      ∙ three-decimal variant case number small

  by : (negative : Bool) → list_all takes_three (signed_text variant case negative (decimal_digits number)) ≡ true
  by true = rw (three-minus variant, digits) refl
  by false = digits

-- the text of a number of 128 bits has at most a sign and 39 digits
pub plain-fits : (variant : ChineseVariant) (case : ChineseCase) (negative : Bool) (number : ℕ)
    → number < 2 ^ 128
    → 3 * length (signed_text variant case negative (decimal_digits number)) ≤ most_plain_bytes
plain-fits variant case negative number small =
    omega (
      arith,
      length-signed variant case negative (decimal_digits number),
      sign-one negative,
      length-map (decimal number) (λ byte. digit (byte - 48)),
      length-decimal-le_wide 39 number (omega arith) (omega (arith, small)) (omega (arith, small)),
    )
