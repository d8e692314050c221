-- Decimals, and the zeros at their end.
use Rattle.std.proofs.Common.{◌≡◌, ℕ, zero, suc, ◌+◌, ◌*◌, ◌/◌, ◌%◌, ◌^◌, ◌<◌, ◌≤◌, ◌==◌, ℤ, pos, negsuc, nat_abs, int_div, int_lt, Bool, true, false, Option, Some, None, find, refl, ap, ◌∙◌, arith, if◌then◌else◌}
use Rattle.std.proofs.Math.Arith.{mod-mul}
use Rattle.std.proofs.Math.Nat.{pow-le-pow_right, pow-suc}
use Rattle.std.proofs.lemmas.Bool.Decides.{nat_tests}
use Rattle.std.proofs.lemmas.Bool.{eq-eqb}
use Rattle.std.proofs.lemmas.Int.{ints}
use Rattle.std.proofs.lemmas.Nat.{pow-add}
use Rattle.std.specs.List.{range_with_len}
use Rattle.cn_core.specs.Whole.{signed_number}
use Rattle.cn_quantity.specs.Trimmed.{decimals_over, zeros_at_end}

-- the search for the number of decimals that makes the denominator, from a number on
unfoldable pub over_from : ℕ → ℕ → ℕ → ℕ → Option ℕ
over_from divisor denominator start count =
    find (λ decimals. divisor * 10 ^ decimals == denominator) (range_with_len start count)

pub over-all : (divisor denominator : ℕ)
    → decimals_over divisor denominator ≡ over_from divisor denominator 0 39
unfolding decimals_over over_from
over-all divisor denominator = refl

-- this number makes it
pub over-here : (divisor denominator start count : ℕ) → divisor * 10 ^ start ≡ denominator
    → over_from divisor denominator start (suc count) ≡ Some start
unfolding over_from
over-here divisor denominator start count same =
    let test : (divisor * 10 ^ start == denominator) ≡ true = eq-eqb _ _ same in rw test refl

-- this number does not
pub over-next : (divisor denominator start count : ℕ)
    → (divisor * 10 ^ start ≡ denominator → ⊥)
    → over_from divisor denominator start (suc count)
    ≡ over_from divisor denominator (start + 1) count
unfolding over_from
over-next divisor denominator start count other =
    let test : (divisor * 10 ^ start == denominator) ≡ false = grind (arith, nat_tests, other) in
    rw test refl

-- no number is left to try
pub over-end : (divisor denominator start : ℕ) → over_from divisor denominator start 0 ≡ None
unfolding over_from
over-end divisor denominator start = refl

pub raised : (n : ℕ) → 10 ^ (n + 1) ≡ 10 ^ n * 10
raised n = pow-add 10 n 1

-- no number makes it if the first is too great
pub over-none : (divisor denominator start count : ℕ) → denominator < divisor * 10 ^ start
    → over_from divisor denominator start count ≡ None
over-none divisor denominator start zero less = over-end divisor denominator start
over-none divisor denominator start (suc count) less =
    let next : denominator < divisor * 10 ^ (start + 1) =
    let more = raised start in rw more (omega (arith, less)) in
    over-next divisor denominator start count (λ same. omega (arith, same, less))
    ∙ over-none divisor denominator (start + 1) count next

-- powers of ten
pub ten-up : (i j : ℕ) → i ≤ j → 10 ^ i ≤ 10 ^ j
ten-up i j less = pow-le-pow_right {n = 10} (omega arith) less

pub ten-above : (n : ℕ) → 0 < 10 ^ n
ten-above n = let one = ten-up 0 n (omega arith) in omega (arith, one)

-- a product that fits 128 bits, with a factor above 0
pub few : (m decimals : ℕ) → 0 < m → m * 10 ^ decimals < 2 ^ 128 → decimals ≤ 38
few m decimals some fits =
    let size : (39 ≤ decimals) → 2 ^ 128 ≤ 10 ^ decimals =
    λ many. let great = ten-up 39 decimals many in omega (arith, great) in
    grind (arith, size, some, fits)

-- a signed number divided is its magnitude divided, with its sign
pub divided : (z : ℤ) (d : ℕ)
    → int_div z (pos d) ≡ signed_number (int_lt z (pos 0)) (nat_abs z / d)
divided (pos m) d =
    let test : int_lt (pos m) (pos 0) ≡ false = grind (arith, ints, nat_tests) in rw test refl
divided (negsuc m) d = refl

-- what is left over a power of ten, and the last digit
digit-last : (count number : ℕ)
    → number % 10 ^ suc count ≡ number / 10 % 10 ^ count * 10 + number % 10
digit-last count number =
    ap (λ n. number % n) (pow-suc 10 count) ∙ mod-mul number (ten-above count) (omega arith)

-- a zero more, and no more zeros
pub zeros-next : (count number : ℕ) → number % 10 ≤ 0
    → zeros_at_end (suc count) number ≡ suc (zeros_at_end count (number / 10))
zeros-next zero number none =
    let test : (number % 10 ^ suc zero == 0) ≡ true = eq-eqb _ _ (omega (arith, none)) in rw test refl
zeros-next (suc count) number none =
    by (number / 10 % 10 ^ suc count == 0) refl (zeros-next count number none) where
      by : (b : Bool) → (number / 10 % 10 ^ suc count == 0) ≡ b
          → zeros_at_end (suc count) number ≡ suc (zeros_at_end count (number / 10))
          → zeros_at_end (suc (suc count)) number
          ≡ suc (if b then suc count else zeros_at_end count (number / 10))
      by true e ih =
          let last = digit-last (suc count) number in
          let test : (number % 10 ^ suc (suc count) == 0) ≡ true =
          grind (arith, nat_tests, e, last, none) in
          rw test refl
      by false e ih =
          let last = digit-last (suc count) number in
          let test : (number % 10 ^ suc (suc count) == 0) ≡ false =
          grind (arith, nat_tests, e, last) in
          rw test ih

pub zeros-stop : (count number : ℕ) → 0 < number % 10 → zeros_at_end count number ≡ 0
zeros-stop zero number some = refl
zeros-stop (suc count) number some =
    let last = digit-last count number in
    let test : (number % 10 ^ suc count == 0) ≡ false = grind (arith, nat_tests, some, last) in
    rw test (zeros-stop count number some)
