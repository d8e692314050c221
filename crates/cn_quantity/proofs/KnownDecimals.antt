-- How many decimals a quantity has, by its denominator.
use Rattle.std.proofs.Common.{◌≡◌, ℕ, zero, suc, ◌+◌, ◌*◌, ◌^◌, ◌<◌, ◌≤◌, Bool, true, false, ◌==◌, List, [], ◌∷◌, find, Option, Some, None, option_map, refl, sym, ap, ◌∙◌, arith, if◌then◌else◌}
use Rattle.std.specs.List.{range_with_len}
use Rattle.std.proofs.lemmas.Bool.Decides.{nat_tests}
use Rattle.std.proofs.Math.Decide.{dec_lt}
use Rattle.std.proofs.Math.Nat.{mul-lt-mul_of_pos_left, pow-suc}
use Rattle.cn_quantity.specs.declared.quantity.QuantityForm.TheVariants.{Whole, Decimal}
use Rattle.cn_quantity.specs.Trimmed.{decimals_in, decimals_over}
use Rattle.cn_quantity.proofs.Trims.{over-all, over-here, over-next, over_from, ten-above, ten-up}

-- what is found passes the test
find-passes : (test : ℕ → Bool) (numbers : List ℕ) (number : ℕ)
    → find test numbers ≡ Some number → test number ≡ true
find-passes test [] number h = cc
find-passes test (n ∷ rest) number h = by (test n) refl h (find-passes test rest number) where
  by : (b : Bool) → test n ≡ b → (if b then Some n else find test rest) ≡ Some number
      → (find test rest ≡ Some number → test number ≡ true) → test number ≡ true
  by true e h ih = let same : n ≡ number = cc in ap test (sym same) ∙ e
  by false e h ih = ih h

pub over-is : (divisor denominator decimals : ℕ)
    → decimals_over divisor denominator ≡ Some decimals
    → divisor * 10 ^ decimals ≡ denominator
unfolding decimals_over
over-is divisor denominator decimals h =
    let passes = find-passes (λ n. divisor * 10 ^ n == denominator) (range_with_len 0 39)
    decimals h in grind (arith, nat_tests, passes)

-- the denominator of a form with this number of decimals
pub whole-is : (denominator decimals : ℕ) → decimals_in Whole denominator ≡ Some decimals
    → (decimals ≡ 0) × (denominator ≡ 1)
whole-is denominator decimals h = by (denominator == 1) refl h where
  by : (b : Bool) → (denominator == 1) ≡ b → (if b then Some 0 else None) ≡ Some decimals
      → (decimals ≡ 0) × (denominator ≡ 1)
  by false e h = cc
  by true e h = (cc, grind (arith, nat_tests, e))

pub decimal-is : (denominator decimals : ℕ) → decimals_in Decimal denominator ≡ Some decimals
    → (0 < decimals) × (10 ^ decimals ≡ denominator)
decimal-is denominator decimals h = by (decimals_over 10 denominator) refl h where
  by : (o : Option ℕ) → decimals_over 10 denominator ≡ o → option_map suc o ≡ Some decimals
      → (0 < decimals) × (10 ^ decimals ≡ denominator)
  by None e h = cc
  by (Some fewer) e h =
      let same : suc fewer ≡ decimals = cc in
      let power = over-is 10 denominator fewer e in (
        omega (arith, same),
        ap (λ n. 10 ^ n) (sym same) ∙ pow-suc 10 fewer ∙ omega (arith, power),
      )

-- what is found from a number on is one of the numbers from there on
from-below : (divisor denominator start count decimals : ℕ)
    → over_from divisor denominator start count ≡ Some decimals → decimals < start + count
unfolding over_from
from-below divisor denominator start zero decimals h = cc
from-below divisor denominator start (suc count) decimals h =
    by (divisor * 10 ^ start == denominator) h
    (from-below divisor denominator (start + 1) count decimals) where
      by : (b : Bool)
          → (if b then Some start else over_from divisor denominator (start + 1) count)
          ≡ Some decimals
          → (over_from divisor denominator (start + 1) count ≡ Some decimals
          → decimals < start + 1 + count)
          → decimals < start + suc count
      by true here further = let is : start ≡ decimals = cc in omega (arith, is)
      by false next further = let less = further next in omega (arith, less)

pub over-below : (divisor denominator decimals : ℕ)
    → decimals_over divisor denominator ≡ Some decimals → decimals < 39
over-below divisor denominator decimals h =
    from-below divisor denominator 0 39 decimals (sym (over-all divisor denominator) ∙ h)

power-less : (start decimals : ℕ) → start < decimals → 10 ^ start < 10 ^ decimals
power-less start decimals less =
    let above = ten-above start in
    let next : 10 ^ suc start ≡ 10 ^ start * 10 = pow-suc 10 start in
    let up = ten-up (suc start) decimals less in omega (arith, above, next, up)

-- the decimals that make a denominator are found
over-found : (divisor denominator decimals start count : ℕ) → 0 < divisor
    → divisor * 10 ^ decimals ≡ denominator → start ≤ decimals → decimals < start + count
    → over_from divisor denominator start count ≡ Some decimals
over-found divisor denominator decimals start zero some is low high =
    absurd (omega (arith, low, high))
over-found divisor denominator decimals start (suc count) some is low high =
    by (dec_lt start decimals)
    (over-found divisor denominator decimals (start + 1) count some is) where
      other : start < decimals → divisor * 10 ^ start ≡ denominator → ⊥
      other less same =
          let more : divisor * 10 ^ start < divisor * 10 ^ decimals =
          mul-lt-mul_of_pos_left (power-less start decimals less) some in
          omega (arith, more, same, is)

      by : Dec (start < decimals)
          → (start + 1 ≤ decimals → decimals < start + 1 + count
          → over_from divisor denominator (start + 1) count ≡ Some decimals)
          → over_from divisor denominator start (suc count) ≡ Some decimals
      by (yes less) further =
          over-next divisor denominator start count (other less)
          ∙ further (omega (arith, less)) (omega (arith, high))
      by (no last) further =
          let same : start ≡ decimals = omega (arith, low, last) in
          over-here divisor denominator start count (ap (λ n. divisor * 10 ^ n) same ∙ is)
          ∙ ap Some same

pub over-some : (divisor denominator decimals : ℕ) → 0 < divisor
    → divisor * 10 ^ decimals ≡ denominator → decimals < 39
    → decimals_over divisor denominator ≡ Some decimals
over-some divisor denominator decimals some is low =
    over-all divisor denominator
    ∙ over-found divisor denominator decimals 0 39 some is (omega arith) (omega (arith, low))

-- a decimal has at most one more than the decimals over ten
pub decimal-below : (denominator decimals : ℕ) → decimals_in Decimal denominator ≡ Some decimals
    → decimals < 40
decimal-below denominator decimals h = by (decimals_over 10 denominator) refl h where
  by : (o : Option ℕ) → decimals_over 10 denominator ≡ o → option_map suc o ≡ Some decimals
      → decimals < 40
  by None e h = cc
  by (Some fewer) e h =
      let same : suc fewer ≡ decimals = cc in
      let low = over-below 10 denominator fewer e in omega (arith, same, low)
