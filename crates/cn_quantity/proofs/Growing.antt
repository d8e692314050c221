-- A number only grows while more digits and units are read.
use Rattle.std.proofs.Common.{◌≡◌, ℕ, ◌+◌, ◌*◌, ◌^◌, ◌<◌, ◌≤◌, Bool, true, false, nat_lt, ◌&&◌, List, [], ◌∷◌, map, filter_map, Option, Some, None, refl, sym, ap, ◌∙◌, arith, if◌then◌else◌}
use Rattle.std.specs.List.{cons_option, list_all}
use Rattle.std.specs.Option.{option_map_or}
use Rattle.std.proofs.lemmas.Bool.Decides.{nat_tests}
use Rattle.std.proofs.Math.Nat.{mul-le-mul_left, mul_assoc, one-le-pow, pow-le-pow_right, mul_comm}
use Rattle.cn_core.specs.declared.method.ChineseCountMethod.{ChineseCountMethod}
use Rattle.cn_core.specs.Characters.{rank_of}
use Rattle.cn_core.specs.Digits.{value_after}
use Rattle.cn_core.specs.Scale.{scale, scale_fits, exponent}
use Rattle.cn_core.specs.Value.{product}
use Rattle.cn_quantity.specs.declared.characters.DigitKind.{DigitKind}
use Rattle.cn_quantity.specs.Characters.{digit_by}
use Rattle.cn_quantity.specs.Digits.{read_on}
use Rattle.cn_quantity.specs.Units.{fitting_if, times_units}

-- the digits after those of a number make it no smaller
value-grows : (number : ℕ) (digits : List ℕ) → number ≤ value_after number digits
value-grows number [] = omega arith
value-grows number (digit ∷ digits) =
    let more = value-grows (number * 10 + digit) digits in omega (arith, more)

pub read_on-past : (kind : DigitKind) (number longer digit c : ℕ) (text rest after : List ℕ)
    → read_on kind longer rest ≡ read_on kind number text → rest ≡ c ∷ after
    → digit_by kind c ≡ Some digit → ¬ (longer * 10 + digit < 2 ^ 128)
    → ¬ (read_on kind number text < 2 ^ 128)
read_on-past kind number longer digit c text rest after same parts is much = λ h.
    let le = value-grows (longer * 10 + digit) (filter_map (digit_by kind) after) in
    let next : read_on kind (longer * 10 + digit) after ≡ read_on kind number text =
    rw (parts, is) at same in
    much (omega (arith, le, next, h))

-- one character more
pub times-next : (method : ChineseCountMethod) (number c : ℕ) (rest : List ℕ)
    → times_units method number (c ∷ rest)
    ≡ option_map_or (λ rank. if scale_fits method rank
    then times_units method (number * scale method rank) rest else None)
    (rank_of c) (times_units method number rest)
times-next method number c rest = by (rank_of c) where
  ranks : List ℕ
  ranks = filter_map rank_of rest

  by : (r : Option ℕ) → (let all = cons_option r ranks in
      fitting_if (list_all (scale_fits method) all) (number * product (map (scale method) all)))
      ≡ option_map_or (λ rank. if scale_fits method rank
      then times_units method (number * scale method rank) rest else None) r
      (times_units method number rest)
  by None = refl
  by (Some rank) =
      rw (← mul_assoc number (scale method rank) (product (map (scale method) ranks)))
      (fits (scale_fits method rank)) where
        fits : (b : Bool) → fitting_if (b && list_all (scale_fits method) ranks)
            (number * scale method rank * product (map (scale method) ranks))
            ≡ (if b then times_units method (number * scale method rank) rest else None)
        fits true = refl
        fits false = refl

-- one unit more, and one digit
pub times-unit : (method : ChineseCountMethod) (number c rank : ℕ) (rest : List ℕ)
    → rank_of c ≡ Some rank → scale_fits method rank ≡ true
    → times_units method number (c ∷ rest) ≡ times_units method (number * scale method rank) rest
times-unit method number c rank rest is fits = times-next method number c rest ∙ rw (is, fits) refl

pub times-digit : (method : ChineseCountMethod) (number c : ℕ) (rest : List ℕ) → rank_of c ≡ None
    → times_units method number (c ∷ rest) ≡ times_units method number rest
times-digit method number c rest none = rw none

-- units make no number smaller
product-above : (method : ChineseCountMethod) (ranks : List ℕ)
    → 1 ≤ product (map (scale method) ranks)
product-above method [] = omega arith
product-above method (rank ∷ ranks) =
    let one = one-le-pow (exponent method rank) 10 (omega arith) in
    let more = mul-le-mul_left (scale method rank) (product-above method ranks) in
    omega (arith, one, more)

-- a number that does not fit does not fit when it is multiplied
pub times_units-over : (method : ChineseCountMethod) (number : ℕ) (text : List ℕ)
    → ¬ (number < 2 ^ 128) → times_units method number text ≡ None
times_units-over method number text much =
    by (list_all (scale_fits method) (filter_map rank_of text)) where
      all : ℕ
      all = number * product (map (scale method) (filter_map rank_of text))

      by : (b : Bool) → fitting_if b all ≡ None
      by true =
          let one = product-above method (filter_map rank_of text) in
          let more = mul-le-mul_left number one in
          let test : nat_lt all (2 ^ 128) ≡ false = grind (arith, nat_tests, more, much) in rw test
      by false = refl

pub times_units-past : (method : ChineseCountMethod) (number product rank c : ℕ)
    (text rest after : List ℕ)
    → times_units method product rest ≡ times_units method number text → rest ≡ c ∷ after
    → rank_of c ≡ Some rank
    → ¬ ((scale_fits method rank ≡ true) × (product * scale method rank < 2 ^ 128))
    → times_units method number text ≡ None
times_units-past method number product rank c text rest after same parts is much =
    by (scale_fits method rank) refl
    (rw is at (sym (times-next method product c after)
    ∙ ap (times_units method product) (sym parts) ∙ same)) where
      by : (b : Bool) → scale_fits method rank ≡ b
          → (if b then times_units method (product * scale method rank) after else None)
          ≡ times_units method number text → times_units method number text ≡ None
      by true fits e =
          sym e ∙ times_units-over method (product * scale method rank) after
          (λ h. much (fits, h))
      by false fits e = sym e

-- 10^39 does not fit
pub power-over : (divisor decimals : ℕ) → 0 < divisor → ¬ (decimals ≤ 38)
    → ¬ (divisor * 10 ^ decimals < 2 ^ 128)
power-over divisor decimals some many = λ h.
    let far : 39 ≤ decimals = omega (arith, many) in
    let ten : 0 < 10 = omega arith in
    let power : 10 ^ 39 ≤ 10 ^ decimals = pow-le-pow_right ten far in
    let one : 1 ≤ divisor = omega (arith, some) in
    let le : 10 ^ decimals * 1 ≤ 10 ^ decimals * divisor = mul-le-mul_left (10 ^ decimals) one in
    let turned : divisor * 10 ^ decimals ≡ 10 ^ decimals * divisor =
    mul_comm divisor (10 ^ decimals) in
    omega (arith, power, le, turned, h)
