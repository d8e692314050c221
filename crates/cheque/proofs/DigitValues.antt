-- Digits, and the number that they write.
use Rattle.std.proofs.Common.{◌≡◌, ℕ, ◌+◌, ◌-◌, ◌*◌, ◌<◌, ◌&&◌, ◌==◌, Bool, true, false, List, [], ◌∷◌, ◌++◌, Option, Some, None, ◌⊎◌, inl, inr, refl, sym, ap, ◌∙◌, if◌then◌else◌, arith}
use Rattle.std.specs.Char.{is_ascii_digit}
use Rattle.std.specs.List.{list_all}
use Rattle.std.proofs.lemmas.Bool.Decides.{nat_tests}
use Rattle.std.proofs.lemmas.List.Folds.{list_all-append}
use Rattle.cn_dynamic.specs.Decimal.{value_after}
use Rattle.cheque.specs.Digits.{AreDigits, digit_of, by_character}

pub and-front : (a b : Bool) → (a && b) ≡ true → a ≡ true
and-front true b h = refl
and-front false b h = h

pub and-back : (a b : Bool) → (a && b) ≡ true → b ≡ true
and-back true b h = h
and-back false b h = absurd (cc)

both : (a b : Bool) → a ≡ true → b ≡ true → (a && b) ≡ true
both true b h k = k
both false b h k = absurd (cc)

pub first-digit : (digit : ℕ) (digits : List ℕ) → AreDigits (digit ∷ digits)
    → is_ascii_digit digit ≡ true
first-digit digit digits h = and-front (is_ascii_digit digit) (list_all is_ascii_digit digits) h

pub rest-digits : (digit : ℕ) (digits : List ℕ) → AreDigits (digit ∷ digits) → AreDigits digits
rest-digits digit digits h = and-back (is_ascii_digit digit) (list_all is_ascii_digit digits) h

pub one-digit : (digit : ℕ) → is_ascii_digit digit ≡ true → AreDigits (digit ∷ [])
one-digit digit h = both (is_ascii_digit digit) true h refl

pub digits-more : (digits more : List ℕ) → AreDigits digits → AreDigits more
    → AreDigits (digits ++ more)
digits-more digits more h k = list_all-append is_ascii_digit digits more
    ∙ both (list_all is_ascii_digit digits) (list_all is_ascii_digit more) h k

pub value-more : (number : ℕ) (digits : List ℕ) (digit : ℕ)
    → value_after number (digits ++ digit ∷ []) ≡ 10 * value_after number digits + (digit - 48)
value-more number [] digit = omega arith
value-more number (first ∷ digits) digit = value-more (number * 10 + (first - 48)) digits digit

pub digit-low : (digit : ℕ) → is_ascii_digit digit ≡ true → digit - 48 < 10
digit-low digit h = grind (arith, nat_tests)

pub digit-is : (digit : ℕ) → digit < 10 → is_ascii_digit (48 + digit) ≡ true
digit-is digit low = grind (arith, nat_tests)

-- a digit is not a mark that is not a digit
pub at-digit : {A : Type 0} (mark : ℕ) (at_mark : Option A) (at_digit : ℕ → Option A) (c : ℕ)
    → is_ascii_digit mark ≡ false → is_ascii_digit c ≡ true
    → by_character mark at_mark at_digit c ≡ at_digit (c - 48)
at-digit {A} mark at_mark at_digit c other digit = by (c == mark) refl
    ∙ ap (λ (b : Bool). at (if b then Some (c - 48) else None)) digit where
      at : Option ℕ → Option A
      at o = elim o [ None ↦ None | Some value ↦ at_digit value ]

      by : (b : Bool) → (c == mark) ≡ b → (if b then at_mark else at (digit_of c)) ≡ at (digit_of c)
      by true is =
          let same : c ≡ mark = grind (arith, nat_tests, is) in
          let wrong : true ≡ false = sym digit ∙ ap is_ascii_digit same ∙ other in absurd (cc)
      by false is = refl

-- if a character gives something, it is the mark or a digit
pub by-either : {A : Type 0} (mark : ℕ) (at_mark : Option A) (at_digit : ℕ → Option A) (c : ℕ)
    (next : A) → by_character mark at_mark at_digit c ≡ Some next
    → ((mark ≡ c) × (at_mark ≡ Some next))
    ⊎ ((is_ascii_digit c ≡ true) × (at_digit (c - 48) ≡ Some next))
by-either {A} mark at_mark at_digit c next e = by (c == mark) (is_ascii_digit c) refl refl e where
  by : (is_mark is_digit : Bool) → (c == mark) ≡ is_mark → is_ascii_digit c ≡ is_digit
      → (if is_mark then at_mark
      else (elim (if is_digit then Some (c - 48) else None)
      [ None ↦ None | Some value ↦ at_digit value ])) ≡ Some next
      → ((mark ≡ c) × (at_mark ≡ Some next))
      ⊎ ((is_ascii_digit c ≡ true) × (at_digit (c - 48) ≡ Some next))
  by true _ is _ e = inl (grind (arith, nat_tests, is), e)
  by false true _ digit e = inr (digit, e)
  by false false _ _ e = absurd (cc)
