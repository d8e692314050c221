-- Digits after a point, and the space that they take.
use Rattle.std.proofs.Common.{◌≡◌, ℕ, zero, suc, ◌+◌, ◌*◌, ◌/◌, ◌%◌, ◌^◌, ◌<◌, ◌≤◌, [], ◌∷◌, map, refl, ap, ◌∙◌, arith}
use Rattle.std.proofs.Math.Nat.{div-div-eq-div-mul, mul-le-mul_left}
use Rattle.std.proofs.lemmas.Nat.{pow-add}
use Rattle.cn_quantity_text.specs.Digits.{behind_point, last_digits}

-- dividing a number by one more power of ten
pub one-less : (number count : ℕ) → number / 10 ^ count / 10 ≡ number / 10 ^ (count + 1)
one-less number count =
    div-div-eq-div-mul number (10 ^ count) 10
    ∙ ap (λ n. number / n) (let more = pow-add 10 count 1 in omega (arith, more))

pub one-more : (number count : ℕ)
    → last_digits (count + 1) number ≡ number / 10 ^ count % 10 ∷ last_digits count number
one-more number count =
    let e : count + 1 ≡ suc count = omega arith in rw e refl

-- some digits have a point before them, and no digits have none
pub some-behind : (point : ℕ) (character : ℕ → ℕ) (count number : ℕ) → 0 < count
    → behind_point point character count number
    ≡ point ∷ map character (last_digits count number)
some-behind point character zero number some = absurd (omega (arith, some))
some-behind point character (suc count) number some = refl

pub none-behind : (point : ℕ) (character : ℕ → ℕ) (count number : ℕ) → count ≤ 0
    → behind_point point character count number ≡ []
none-behind point character zero number none = refl
none-behind point character (suc count) number none = absurd (omega (arith, none))

-- a buffer with space for all characters has space for each one that is still to be written
pub room-left : (most count put old free : ℕ) → most * count ≤ old → put < count
    → old ≤ free + most * put → most ≤ free
room-left most count put old free enough less taken =
    let more : most * (put + 1) ≤ most * count = mul-le-mul_left most (omega (arith, less)) in
    omega (arith, more, enough, taken)

-- and it has used at most that space for each one that is written
pub room-taken : (most put old free new taken : ℕ) → old ≤ free + most * put → taken ≤ most
    → new + taken ≡ free → old ≤ new + most * (put + 1)
room-taken most put old free new taken had few is = omega (arith, had, few, is)

pub no-digits : (number : ℕ) → number ≡ number / 10 ^ 0
no-digits number = omega arith
