-- A quantity without the zeros at the end of its decimals has the same value, and no zero there.
use Rattle.std.proofs.Common.{◌≡◌, ◌↔◌, ℕ, zero, suc, ◌+◌, ◌-◌, ◌*◌, ◌/◌, ◌%◌, ◌^◌, ◌<◌, ◌≤◌, ◌==◌, ℤ, pos, negsuc, ◌*ℤ◌, neg_ℤ, int_lt, nat_abs, Bool, true, false, Option, Some, None, IsSome, option_map, ◌⊎◌, inl, inr, refl, sym, ap, subst, ◌∙◌, arith}
use Rattle.std.specs.Option.{option_map_or}
use Rattle.std.proofs.Math.IntN.{negsuc-*ℤ-pos, pos-*ℤ-pos}
use Rattle.std.proofs.Math.Nat.{mul-div_cancel, mul_assoc, pow-suc}
use Rattle.std.proofs.lemmas.Bool.Decides.{nat_tests}
use Rattle.std.proofs.lemmas.Int.{ints}
use Rattle.std.proofs.lemmas.Nat.{pow-add}
use Rattle.cn_core.specs.Whole.{signed_number}
use Rattle.cn_quantity.specs.declared.quantity.Quantity.{Quantity}
use Rattle.cn_quantity.specs.declared.quantity.QuantityForm.{QuantityForm}
use Rattle.cn_quantity.specs.declared.quantity.QuantityForm.TheVariants.{Whole, Decimal, Percent, Fraction}
use Rattle.cn_quantity.specs.Ratio.{form_of}
use Rattle.cn_quantity.specs.Trimmed.{decimals_in, decimals_of, form_with, trimmed, without_zeros, zeros_at_end}
use Rattle.cn_quantity.proofs.KnownDecimals.{decimal-below, decimal-is, over-below, over-is, over-some, whole-is}
use Rattle.cn_quantity.proofs.Trims.{ten-above, zeros-next, zeros-stop}

-- the digits before the zeros among the last digits of a number
pub record IsCut (count number zeros : ℕ) : Type 0 where
  pub front : ℕ
  pub exact : front * 10 ^ zeros ≡ number
  pub few : zeros ≤ count
  pub last : (zeros ≡ count) ⊎ (0 < front % 10)

pub IsCut-zeros : (count number : ℕ) → IsCut count number (zeros_at_end count number)
IsCut-zeros zero number = record {
  front = number;
  exact = omega arith;
  few = omega arith;
  last = inl refl;
}
IsCut-zeros (suc count) number = by (number % 10 == 0) refl (IsCut-zeros count (number / 10)) where
  by : (b : Bool) → (number % 10 == 0) ≡ b
      → IsCut count (number / 10) (zeros_at_end count (number / 10))
      → IsCut (suc count) number (zeros_at_end (suc count) number)
  by true e cut =
      let zeros = zeros_at_end count (number / 10) in
      let none : number % 10 ≡ 0 = grind (arith, nat_tests, e) in
      let next : 10 ^ suc zeros ≡ 10 ^ zeros * 10 = pow-suc 10 zeros in
      subst (IsCut (suc count) number) (sym (zeros-next count number (omega (arith, none)))) (record {
        front = cut.front;
        exact = ap (λ n. cut.front * n) next
            ∙ sym (mul_assoc cut.front (10 ^ zeros) 10)
            ∙ ap (λ n. n * 10) cut.exact
            ∙ omega (arith, none);
        few = omega (arith, cut.few);
        last = elim cut.last [ inl all ↦ inl (ap suc all) | inr some ↦ inr some ];
      })
  by false e cut =
      let some : 0 < number % 10 = grind (arith, nat_tests, e) in
      subst (IsCut (suc count) number) (sym (zeros-stop (suc count) number some)) (record {
        front = number;
        exact = omega arith;
        few = omega arith;
        last = inr some;
      })

-- a denominator without some of its zeros
less-dropped : (divisor decimals dropped : ℕ) → dropped ≤ decimals
    → divisor * 10 ^ decimals / 10 ^ dropped ≡ divisor * 10 ^ (decimals - dropped)
less-dropped divisor decimals dropped low =
    let sum : decimals ≡ decimals - dropped + dropped = omega (arith, low) in
    ap (λ n. divisor * 10 ^ n / 10 ^ dropped) sum
    ∙ ap (λ n. divisor * n / 10 ^ dropped) (pow-add 10 (decimals - dropped) dropped)
    ∙ ap (λ n. n / 10 ^ dropped)
    (sym (mul_assoc divisor (10 ^ (decimals - dropped)) (10 ^ dropped)))
    ∙ mul-div_cancel (divisor * 10 ^ (decimals - dropped)) (ten-above dropped)

-- the decimals that are left
pub decimals-left : (form : QuantityForm) (denominator decimals dropped : ℕ)
    → decimals_in form denominator ≡ Some decimals → dropped ≤ decimals
    → decimals_in (form_with form (decimals - dropped)) (denominator / 10 ^ dropped)
    ≡ Some (decimals - dropped)
decimals-left Whole denominator decimals dropped is low =
    let known = whole-is denominator decimals is in
    let none : dropped ≡ 0 = omega (arith, low, known.0) in
    rw (known.0, none, known.1)
decimals-left Decimal denominator decimals dropped is low =
    let known = decimal-is denominator decimals is in
    let left : denominator / 10 ^ dropped ≡ 1 * 10 ^ (decimals - dropped) =
    ap (λ n. n / 10 ^ dropped) (sym known.1 ∙ omega arith) ∙ less-dropped 1 decimals dropped low in
    rw left (by (decimals - dropped) refl) where
      by : (rest : ℕ) → decimals - dropped ≡ rest
          → decimals_in (form_of rest) (1 * 10 ^ rest) ≡ Some rest
      by zero e = refl
      by (suc rest) e =
          let power : 10 * 10 ^ rest ≡ 1 * 10 ^ suc rest =
          (let next = pow-suc 10 rest in omega (arith, next)) in
          let few = decimal-below denominator decimals is in
          ap (option_map suc) (over-some 10 (1 * 10 ^ suc rest) rest (omega arith) power
          (omega (arith, few, e)))
decimals-left Percent denominator decimals dropped is low =
    let known = over-is 100 denominator decimals is in
    over-some 100 (denominator / 10 ^ dropped) (decimals - dropped) (omega arith)
    (sym (ap (λ n. n / 10 ^ dropped) (sym known) ∙ less-dropped 100 decimals dropped low))
    (let few = over-below 100 denominator decimals is in omega (arith, few))
decimals-left Fraction denominator decimals dropped is low = cc

-- a divisor times ten for each decimal
record IsOver (denominator decimals : ℕ) : Type 0 where
  divisor : ℕ
  exact : divisor * 10 ^ decimals ≡ denominator

IsOver-known : (form : QuantityForm) (denominator decimals : ℕ)
    → decimals_in form denominator ≡ Some decimals → IsOver denominator decimals
IsOver-known Whole denominator decimals is =
    let known = whole-is denominator decimals is in
    record { divisor = 1; exact = ap (λ n. 1 * 10 ^ n) known.0 ∙ sym known.1 }
IsOver-known Decimal denominator decimals is =
    let known = decimal-is denominator decimals is in
    record { divisor = 1; exact = omega (arith, known.1) }
IsOver-known Percent denominator decimals is =
    record { divisor = 100; exact = over-is 100 denominator decimals is }
IsOver-known Fraction denominator decimals is = cc

-- a denominator ends with as many zeros
denominator-dropped : (form : QuantityForm) (denominator decimals dropped : ℕ)
    → decimals_in form denominator ≡ Some decimals → dropped ≤ decimals
    → denominator / 10 ^ dropped * 10 ^ dropped ≡ denominator
denominator-dropped form denominator decimals dropped is low =
    let known = IsOver-known form denominator decimals is in
    let sum : decimals - dropped + dropped ≡ decimals = omega (arith, low) in
    ap (λ n. n / 10 ^ dropped * 10 ^ dropped) (sym known.exact)
    ∙ ap (λ n. n * 10 ^ dropped) (less-dropped known.divisor decimals dropped low)
    ∙ mul_assoc known.divisor (10 ^ (decimals - dropped)) (10 ^ dropped)
    ∙ ap (λ n. known.divisor * n)
    (sym (pow-add 10 (decimals - dropped) dropped) ∙ ap (λ n. 10 ^ n) sum)
    ∙ known.exact

-- both numbers over the same power are the same ratio
crossed : (front power less : ℕ) → front * (less * power) ≡ front * power * less
crossed front power less = grind arith

signed-crossed : (z : ℤ) (front power less denominator : ℕ) → front * power ≡ nat_abs z
    → less * power ≡ denominator
    → signed_number (int_lt z (pos 0)) front *ℤ pos denominator ≡ z *ℤ pos less
signed-crossed (pos m) front power less denominator above below =
    let test : int_lt (pos m) (pos 0) ≡ false = grind (arith, ints, nat_tests) in
    rw test (pos-*ℤ-pos front denominator
    ∙ ap (λ n. pos (front * n)) (sym below)
    ∙ ap pos (crossed front power less ∙ ap (λ n. n * less) above)
    ∙ sym (pos-*ℤ-pos m less))
signed-crossed (negsuc m) zero power less denominator above below = absurd (omega (arith, above))
signed-crossed (negsuc m) (suc front) power less denominator above below =
    negsuc-*ℤ-pos front denominator
    ∙ ap (λ n. neg_ℤ (pos (suc front * n))) (sym below)
    ∙ ap (λ n. neg_ℤ (pos n)) (crossed (suc front) power less ∙ ap (λ n. n * less) above)
    ∙ sym (negsuc-*ℤ-pos m less)

-- what holds of a quantity, and of the quantity without the zeros of known decimals, holds of the
-- trimmed quantity
trimmed-is : (P : Quantity → Type 0) (q : Quantity) → (decimals_of q ≡ None → P q)
    → ((decimals : ℕ) → decimals_of q ≡ Some decimals
    → P (without_zeros q decimals (zeros_at_end decimals (nat_abs q.numerator))))
    → P (trimmed q)
trimmed-is P q unknown known = by (decimals_of q) refl where
  by : (o : Option ℕ) → decimals_of q ≡ o
      → P (option_map_or
      (λ decimals. without_zeros q decimals (zeros_at_end decimals (nat_abs q.numerator))) o q)
  by None is = unknown is
  by (Some decimals) is = known decimals is

-- the law trimmed_keeps_the_value, clause by clause
pub value-trimmed : (q : Quantity)
    → (trimmed q).numerator *ℤ pos q.denominator ≡ q.numerator *ℤ pos (trimmed q).denominator
value-trimmed q =
    trimmed-is (λ t. t.numerator *ℤ pos q.denominator ≡ q.numerator *ℤ pos t.denominator) q
    (λ none. refl) by where
      by : (decimals : ℕ) → decimals_of q ≡ Some decimals
          → let t = without_zeros q decimals (zeros_at_end decimals (nat_abs q.numerator)) in
          t.numerator *ℤ pos q.denominator ≡ q.numerator *ℤ pos t.denominator
      by decimals is =
          let zeros = zeros_at_end decimals (nat_abs q.numerator) in
          let cut = IsCut-zeros decimals (nat_abs q.numerator) in
          let front : nat_abs q.numerator / 10 ^ zeros ≡ cut.front =
          ap (λ n. n / 10 ^ zeros) (sym cut.exact) ∙ mul-div_cancel cut.front (ten-above zeros) in
          signed-crossed q.numerator (nat_abs q.numerator / 10 ^ zeros) (10 ^ zeros)
          (q.denominator / 10 ^ zeros) q.denominator
          (ap (λ n. n * 10 ^ zeros) front ∙ cut.exact)
          (denominator-dropped q.form q.denominator decimals zeros is cut.few)

some-above : (n power denominator : ℕ) → n * power ≡ denominator → 0 < denominator → 0 < n
some-above zero power denominator whole some = omega (arith, whole, some)
some-above (suc n) power denominator whole some = omega arith

pub above-trimmed : (q : Quantity) → 0 < q.denominator → 0 < (trimmed q).denominator
above-trimmed q some = trimmed-is (λ t. 0 < t.denominator) q (λ none. some) by where
  by : (decimals : ℕ) → decimals_of q ≡ Some decimals
      → 0 < q.denominator / 10 ^ zeros_at_end decimals (nat_abs q.numerator)
  by decimals is =
      let zeros = zeros_at_end decimals (nat_abs q.numerator) in
      let cut = IsCut-zeros decimals (nat_abs q.numerator) in
      let whole = denominator-dropped q.form q.denominator decimals zeros is cut.few in
      some-above (q.denominator / 10 ^ zeros) (10 ^ zeros) q.denominator whole some

form-percent : (form : QuantityForm) (decimals : ℕ)
    → (form_with form decimals ≡ Percent) ↔ (form ≡ Percent)
form-percent Whole zero = (λ e. e, λ e. e)
form-percent Whole (suc more) = (λ e. cc, λ e. cc)
form-percent Decimal zero = (λ e. cc, λ e. cc)
form-percent Decimal (suc more) = (λ e. e, λ e. e)
form-percent Percent decimals = (λ e. e, λ e. e)
form-percent Fraction decimals = (λ e. e, λ e. e)

pub percent-trimmed : (q : Quantity) → ((trimmed q).form ≡ Percent) ↔ (q.form ≡ Percent)
percent-trimmed q = trimmed-is (λ t. (t.form ≡ Percent) ↔ (q.form ≡ Percent)) q
    (λ none. (λ e. e, λ e. e))
    (λ decimals is. form-percent q.form (decimals - zeros_at_end decimals (nat_abs q.numerator)))

-- the magnitude of a number by its sign and magnitude
abs-signed : (negative : Bool) (magnitude : ℕ)
    → nat_abs (signed_number negative magnitude) ≡ magnitude
abs-signed false magnitude = refl
abs-signed true zero = refl
abs-signed true (suc more) = refl

not-both : (o : Option ℕ) → IsSome o → o ≡ None → ⊥
not-both None some none = cc
not-both (Some decimals) some none = cc

pub known-trimmed : (q : Quantity) → IsSome (decimals_of q) → IsSome (decimals_of (trimmed q))
known-trimmed q some =
    trimmed-is (λ t. IsSome (decimals_of t)) q (λ none. some)
    (λ decimals is.
    let number = nat_abs q.numerator in
    let few = (IsCut-zeros decimals number).few in
    rw (decimals-left q.form q.denominator decimals (zeros_at_end decimals number) is few) refl)

pub last-trimmed : (q : Quantity) → IsSome (decimals_of q)
    → (decimals_of (trimmed q) ≡ Some 0) ⊎ (0 < nat_abs (trimmed q).numerator % 10)
last-trimmed q some =
    trimmed-is (λ t. (decimals_of t ≡ Some 0) ⊎ (0 < nat_abs t.numerator % 10)) q
    (λ none. absurd (not-both (decimals_of q) some none)) by where
      by : (decimals : ℕ) → decimals_of q ≡ Some decimals
          → let t = without_zeros q decimals (zeros_at_end decimals (nat_abs q.numerator)) in
          (decimals_of t ≡ Some 0) ⊎ (0 < nat_abs t.numerator % 10)
      by decimals is =
          let number = nat_abs q.numerator in
          let zeros = zeros_at_end decimals number in
          let cut = IsCut-zeros decimals number in
          let front : number / 10 ^ zeros ≡ cut.front =
          ap (λ n. n / 10 ^ zeros) (sym cut.exact) ∙ mul-div_cancel cut.front (ten-above zeros) in
          let abs = abs-signed (int_lt q.numerator (pos 0)) (number / 10 ^ zeros) in
          elim cut.last [
            | inl all ↦ inl (decimals-left q.form q.denominator decimals zeros is cut.few
                ∙ ap Some (omega (arith, all)))
            | inr digit ↦ inr (rw (abs, front) digit)
          ]

pub unknown-trimmed : (q : Quantity) → decimals_of q ≡ None → trimmed q ≡ q
unknown-trimmed q none = rw none refl
