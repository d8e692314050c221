-- The highest of the digits whose powers have their own units.
use Rattle.std.proofs.Common.{◌≡◌, ℕ, zero, suc, ◌+◌, ◌-◌, ◌*◌, ◌/◌, ◌%◌, ◌^◌, ◌<◌, ◌≤◌, Bool, true, false, ◌==◌, ◌&&◌, nat_lt, List, [], ◌∷◌, ◌++◌, length, refl, sym, ap, ◌∙◌, arith, length-append, if◌then◌else◌}
use Rattle.std.proofs.lemmas.Bool.Decides.{nat_tests}
use Rattle.std.proofs.Math.Decide.{dec_lt}
use Rattle.std.proofs.Math.Nat.{mod-eq_of_lt, one-le-pow, pow-le-pow_right, mul-le-mul_right, div-div-eq-div-mul, lt_of_mul-lt-mul_right, div-mul-le_self}
use Rattle.std.proofs.lemmas.Nat.{div-add-mod'}
use Rattle.std.proofs.Math.Bool.{and-false}
use Rattle.cn_core.specs.declared.method.ChineseCountMethod.TheVariants.{Low}
use Rattle.cn_core.specs.Mark.{Mark, digit, unit}
use Rattle.cn_core.specs.Spelling.{spelling, short_spelling, spelling_within}
use Rattle.cn_core.proofs.Cuts.{part, part-some}
use Rattle.cn_core.proofs.Sums.{spelled-digit}
use Rattle.cn_spell.specs.Working.Sections.{kept, digit_marks, top_marks}
use Rattle.cn_spell.proofs.Walks.{lower-less}
use Rattle.cn_spell.proofs.Tops.{at, filled_of, Filled, part-none}
use Rattle.cn_spell.proofs.Single.{so_far, step, below_of, some-digit}

-- the highest digit of a number
at-top : (number power : ℕ) → number < 10 ^ suc power → number / 10 ^ power < 10
at-top number power less =
    let raised : 10 ^ suc power ≡ 10 * 10 ^ power = omega arith in
    lt_of_mul-lt-mul_right (10 ^ power)
    (omega (arith, less, raised, div-mul-le_self number (10 ^ power)))

some-top : (number power : ℕ) → 10 ^ power ≤ number → 0 < number / 10 ^ power
some-top number power reach =
    let raised : 0 < 10 ^ power = one-le-pow power 10 (omega arith) in
    elim (dec_lt 0 (number / 10 ^ power)) [
      | yes p ↦ p
      | no p ↦ absurd (let z : number / 10 ^ power ≡ 0 = omega (arith, p) in
          let split = lower-all number power in
          let none : number / 10 ^ power * 10 ^ power ≡ 0 = rw z (omega arith) in
          omega (arith, split, none, reach, lower-less number power))
    ] where
      lower-all : (number power : ℕ)
          → number ≡ number / 10 ^ power * 10 ^ power + number % 10 ^ power
      lower-all number power = sym (div-add-mod' number (10 ^ power))

short_spelling-top : (power d : ℕ) (rest : List Mark) → nat_lt 0 power ≡ true
    → short_spelling (digit d ∷ unit power ∷ rest) ≡ top_marks power d ++ rest
short_spelling-top power d rest high = rw high (by (d == 1 && power == 1)) where
  by : (b : Bool) → (if b then unit power ∷ rest else digit d ∷ unit power ∷ rest)
      ≡ ((if b then [] else digit d ∷ []) ++ (unit power ∷ [])) ++ rest
  by true = refl
  by false = refl

-- a number as a part of another, by its highest power
pub part-top : (number power : ℕ) → power < 16 → number < 10 ^ suc power → 10 ^ power ≤ number
    → part Low number ≡ digit (number / 10 ^ power)
    ∷ (kept (nat_lt 0 power) (unit power) ++ so_far Low number power)
part-top number power within less reach =
    let pos : 0 < number / 10 ^ power = some-top number power reach in
    let value : at number power ≡ number / 10 ^ power = mod-eq_of_lt (at-top number power less) in
    let t : nat_lt 0 (number / 10 ^ power) ≡ true = grind (arith, nat_tests, pos) in
    let whole : number % 10 ^ suc power ≡ number = mod-eq_of_lt less in
    let held = Filled number power in
    let first : digit_marks power (number / 10 ^ power) false ++ so_far Low number power
    ≡ digit (number / 10 ^ power) ∷ (kept (nat_lt 0 power) (unit power)
    ++ so_far Low number power) = rw t refl in
    ap (λ n. part Low n) (sym whole) ∙ some-digit Low number power (filled_of number power) false
    within within (omega (arith, value, pos)) held.0 held.1
    ∙ ap (λ d. digit_marks power d false ++ so_far Low number power) value ∙ first

-- the spelling of a number, by its highest power
pub spelled-top : (number power : ℕ) → power < 16 → number < 10 ^ suc power
    → (0 < power → 10 ^ power ≤ number)
    → spelling Low number ≡ top_marks power (number / 10 ^ power) ++ so_far Low number power
spelled-top number zero within less reach =
    let small : number < 10 = omega (arith, less) in
    let same : number / 10 ^ 0 ≡ number = omega arith in
    let flag : (number == 1 && 0 == 1) ≡ false = and-false (number == 1) in
    rw (same, flag, part-none Low number, spelled-digit number Low number small) refl
spelled-top number (suc p) within less reach =
    let power = suc p in
    let high : 10 ^ power ≤ number = reach (omega arith) in
    let some : 0 < number = let one : 1 ≤ 10 ^ power =
    one-le-pow power 10 (omega arith) in omega (arith, one, high) in
    let t : nat_lt 0 power ≡ true = grind (arith, nat_tests) in
    let parts : part Low number ≡ digit (number / 10 ^ power) ∷ unit power
    ∷ so_far Low number power = rw t at (part-top number power within less high) in
    let spelled : part Low number ≡ spelling_within number Low number = part-some Low number some in
    ap short_spelling (sym spelled ∙ parts)
    ∙ short_spelling-top power (number / 10 ^ power) (so_far Low number power) t

-- the highest power of a number
pub top-of : (number count : ℕ) → number < 10 ^ count → 0 < number
    → (top : ℕ) × (top < count) × (10 ^ top ≤ number) × (number < 10 ^ suc top)
top-of number zero less some = absurd (omega (arith, less, some))
top-of number (suc count) less some = elim (dec_lt number (10 ^ count)) [
  | yes lower ↦ let rest = top-of number count lower some
      in (rest.0, omega (arith, rest.1), rest.2, rest.3)
  | no reach ↦ (count, omega arith, omega (arith, reach), less)
]

-- with more powers there are at least as many marks
so-far-grows : (number power steps : ℕ) → power + steps ≤ 16
    → length (so_far Low number power) ≤ length (so_far Low number (power + steps))
so-far-grows number power zero within = let e : power + 0 ≡ power =
    omega arith in rw e (omega arith)
so-far-grows number power (suc steps) within =
    let e : power + suc steps ≡ suc (power + steps) = omega arith in
    let here : power + steps < 16 = omega (arith, within) in
    let more = ap length (step Low number (power + steps) here here) in
    rw e (omega (
      arith,
      so-far-grows number power steps (omega (arith, within)),
      more,
      length-append (digit_marks (power + steps) (at number (power + steps))
          (nat_lt 0 (below_of number (power + steps)))) (so_far Low number (power + steps)),
    ))

-- there is a mark before those of each power, except the highest
pub room-below : (number power : ℕ) → number < 10 ^ 16 → 10 ^ suc power ≤ number
    → length (so_far Low number (suc power)) + 1 ≤ length (spelling Low number)
room-below number power small reach =
    let some : 0 < number = let one : 1 ≤ 10 ^ suc power =
    one-le-pow (suc power) 10 (omega arith) in omega (arith, one, reach) in
    let top = top-of number 16 small some in
    let under : suc power ≤ top.0 = elim (dec_lt top.0 (suc power)) [
      | no p ↦ omega (arith, p)
      | yes p ↦ absurd (let q : 10 ^ suc top.0 ≤ 10 ^ suc power =
          pow-le-pow_right (omega arith) (omega (arith, p)) in omega (arith, q, reach, top.3))
    ] in
    let steps : suc power + (top.0 - suc power) ≡ top.0 = omega (arith, under) in
    let grows : length (so_far Low number (suc power)) ≤ length (so_far Low number top.0) =
    rw steps at (so-far-grows number (suc power) (top.0 - suc power)
    (omega (arith, steps, top.1))) in
    let t : nat_lt 0 top.0 ≡ true = grind (arith, nat_tests, under) in
    let d = number / 10 ^ top.0 in
    let marks : length (top_marks top.0 d)
    ≡ length (if d == 1 && top.0 == 1 then [] else digit d ∷ []) + 1 =
    rw t (length-append (if d == 1 && top.0 == 1 then [] else digit d ∷ [])
    (unit top.0 ∷ [])) in
    let whole = ap length (spelled-top number top.0 top.1 top.3 (λ pos. top.2)) in
    omega (arith, grows, marks, whole, length-append (top_marks top.0 d) (so_far Low number top.0))

-- the next power, if the number reaches it
pub next-power : (number power left : ℕ) → number < 10 ^ 16 → left ≡ number / 10 ^ power → 10
    ≤ left → (10 ^ suc power ≤ number) × (suc power < 16) × (left / 10 ≡ number / 10 ^ suc power)
next-power number power left small split ten =
    let raised : 10 ^ suc power ≡ 10 ^ power * 10 = omega arith in
    let more : 10 * 10 ^ power ≤ left * 10 ^ power = mul-le-mul_right (10 ^ power) ten in
    let same : left * 10 ^ power ≡ number / 10 ^ power * 10 ^ power =
    ap (λ n. n * 10 ^ power) split in
    let whole : left * 10 ^ power ≤ number =
    omega (arith, same, div-mul-le_self number (10 ^ power)) in
    let reach : 10 ^ suc power ≤ number = omega (arith, raised, more, whole) in (
      reach,
      elim (dec_lt (suc power) 16) [
        | yes p ↦ p
        | no p ↦ absurd (let past : 16 ≤ suc power =
            omega (arith, p) in let q : 10 ^ 16 ≤ 10 ^ suc power =
            pow-le-pow_right (omega arith) past in omega (arith, q, reach, small))
      ],
      ap (λ n. n / 10) split ∙ div-div-eq-div-mul number (10 ^ power) 10
          ∙ ap (λ n. number / n) (sym raised),
    )

-- a power with digits above it
pub step-power : (number power left value below : ℕ) → number < 10 ^ 16
    → left ≡ number / 10 ^ power → 10 ≤ left → value ≡ left % 10 → below ≡ below_of number power
    → so_far Low number (power + 1)
    ≡ digit_marks power value (nat_lt 0 below) ++ so_far Low number power
step-power number power left value below small split ten is_value is_below =
    let next = next-power number power left small split ten in
    let within : power < 16 = omega (arith, next.1) in
    let digit_is : value ≡ at number power = is_value ∙ ap (λ n. n % 10) split in
    let one : power + 1 ≡ suc power = omega arith in
    rw (one, digit_is, is_below) (step Low number power within within)

pub room-power : (number power left value below : ℕ) → number < 10 ^ 16
    → left ≡ number / 10 ^ power → 10 ≤ left → value ≡ left % 10 → below ≡ below_of number power
    → length (digit_marks power value (nat_lt 0 below)) + length (so_far Low number power) + 1
    ≤ length (spelling Low number)
room-power number power left value below small split ten is_value is_below =
    let next = next-power number power left small split ten in
    let one : power + 1 ≡ suc power = omega arith in
    let marks = ap length (step-power number power left value below small split ten is_value
    is_below) in
    omega (
      arith,
      room-below number power small next.0,
      rw one at marks,
      length-append (digit_marks power value (nat_lt 0 below)) (so_far Low number power),
    )

-- the last power
pub spelled-last : (number power left : ℕ) → power < 16 → left ≡ number / 10 ^ power → left < 10
    → (0 < power → 10 ^ power ≤ number)
    → spelling Low number ≡ top_marks power left ++ so_far Low number power
spelled-last number power left within split less reach =
    let raised : 10 ^ suc power ≡ 10 * 10 ^ power = omega arith in
    let whole : number ≡ number / 10 ^ power * 10 ^ power + number % 10 ^ power =
    sym (div-add-mod' number (10 ^ power)) in
    let most : number / 10 ^ power * 10 ^ power ≤ 9 * 10 ^ power =
    mul-le-mul_right (10 ^ power) (omega (arith, split, less)) in
    let below : number < 10 ^ suc power =
    omega (arith, raised, whole, most, lower-less number power) in
    rw split (spelled-top number power within below reach)
