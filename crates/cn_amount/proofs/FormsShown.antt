-- Each capital of a form has a character that is read as it, so a written form is read as itself.
use Rattle.std.proofs.Common.{◌≡◌, ℕ, zero, suc, ◌/◌, ◌%◌, ◌^◌, ◌<◌, Bool, true, false, not, ◌≤◌, ◌||◌, nat_lt, List, [], ◌∷◌, ◌++◌, length, encode_utf8_all, Ok, refl, sym, subst, ◌∙◌, if◌then◌else◌, arith, ◌*◌, ap}
use Rattle.std.specs.List.{list_all}
use Rattle.std.specs.Str.{IsUtf8, all_scalars}
use Rattle.std.proofs.lemmas.Bool.Decides.{nat_tests}
use Rattle.std.specs.String.{string_bytes, string_len}
use Rattle.std.specs.declared.string.String.{String}
use Rattle.std.proofs.lemmas.List.{length-map}
use Rattle.std.proofs.lemmas.List.Folds.{list_all-append}
use Rattle.std.proofs.lemmas.Str.{chars-encodes}
use Rattle.cn_core.specs.declared.script.ChineseVariant.{ChineseVariant}
use Rattle.cn_core.proofs.Fronts.{both}
use Rattle.cn_amount.specs.declared.before.Before.{Before}
use Rattle.cn_amount.specs.declared.before.Before.TheVariants.{Nothing, Gap, Filled}
use Rattle.cn_amount.specs.declared.capital.Capital.{Capital}
use Rattle.cn_amount.specs.declared.capital.Capital.TheVariants.{Digit, Shi, Bai, Qian, Wan, Yi, Jiao, Fen, Ren, Min, Bi}
use Rattle.cn_amount.specs.declared.form.AmountForm.{AmountForm}
use Rattle.cn_amount.specs.declared.places.Section.{Section}
use Rattle.cn_amount.specs.declared.places.Places.{Places}
use Rattle.cn_amount.specs.Form.{Choices, written_as, is_empty, is_written, are_zero, after_digit, after_section, after_wan, after_yi, after_yuan_unit, place_text, places_text, small_places, closing, section_text, unit_text, wan_text, yi_text, yuan_unit, small_text, from_yuan, from_wan, from_yi, from_top, amount_form}
use Rattle.cn_amount.specs.Places.{AreDigits, ArePlaces, section_of, section_value, places_of, amount_value, amount_limit}
use Rattle.cn_amount.specs.Reading.{capital_of, IsAmount, ReadsAmount}
use Rattle.cn_amount.proofs.Lengths.{length-form}
use Rattle.cn_core.specs.declared.buffer.Buffer.{Buffer}
use Rattle.cn_core.specs.Buffers.{IsTextOf}
use Rattle.cn_core.specs.Strings.{IsStringOf}
use Rattle.cn_grammar.proofs.Puts.{puts-all}
use Rattle.cn_amount.specs.Working.Putting.{HasPut}
use Rattle.cn_amount.specs.Writes.{capital_char, amount_text, IsText}
use Rattle.cn_amount.proofs.States.{is_proper}
use Rattle.cn_amount.proofs.Shows.{capital-back, capitals-read, capitals-scalar}
use Rattle.cn_grammar.proofs.Characters as every

both-shown : (front back : List Capital) → list_all is_proper front ≡ true
    → list_all is_proper back ≡ true → list_all is_proper (front ++ back) ≡ true
both-shown front back p q = list_all-append is_proper front back
    ∙ both (list_all is_proper front) (list_all is_proper back) p q

shown-place : (before : Before) (digit : ℕ) (unit : List Capital) → digit < 10
    → list_all is_proper unit ≡ true → list_all is_proper (place_text before digit unit) ≡ true
shown-place before zero unit low h = refl
shown-place before (suc n) unit low h = by before (both (nat_lt 0 (suc n)) _ some less) where
  some : nat_lt 0 (suc n) ≡ true
  some = grind (arith, nat_tests)

  less : nat_lt (suc n) 10 ≡ true
  less = grind (arith, nat_tests)

  by : (before : Before) → is_proper (Digit (suc n)) ≡ true
      → list_all is_proper (place_text before (suc n) unit) ≡ true
  by Nothing d = both (is_proper (Digit (suc n))) _ d h
  by Gap d = both (is_proper (Digit (suc n))) _ d h
  by Filled d = both (is_proper (Digit (suc n))) _ d h

shown-section : (before : Before) (s : Section) → AreDigits s
    → list_all is_proper (section_text before s) ≡ true
shown-section before s digits =
    let a = after_digit before s.thousands in
    let b = after_digit a s.hundreds in
    let c = after_digit b s.tens in
    both-shown (place_text before s.thousands (Qian ∷ [])) _
    (shown-place before s.thousands (Qian ∷ []) digits.0 refl)
    (both-shown (place_text a s.hundreds (Bai ∷ [])) _
    (shown-place a s.hundreds (Bai ∷ []) digits.1 refl)
    (both-shown (place_text b s.tens (Shi ∷ [])) _ (shown-place b s.tens (Shi ∷ []) digits.2 refl)
    (both-shown (place_text c s.ones []) [] (shown-place c s.ones [] digits.3 refl) refl)))

shown-counted : (before : Before) (s : Section) (counts : Bool) (unit : Capital) → AreDigits s
    → is_proper unit ≡ true
    → list_all is_proper (section_text before s ++ unit_text counts unit) ≡ true
shown-counted before s counts unit digits h = both-shown (section_text before s)
    (unit_text counts unit) (shown-section before s digits) (by counts) where
      by : (counts : Bool) → list_all is_proper (unit_text counts unit) ≡ true
      by true = both (is_proper unit) true h refl
      by false = refl

shown-unit : (after : Before) (named : Bool) → list_all is_proper (yuan_unit after named) ≡ true
shown-unit Nothing true = refl
shown-unit Nothing false = refl
shown-unit Gap named = refl
shown-unit Filled named = refl

shown-closing : (jiao fen : ℕ) (closes : Bool) → list_all is_proper (closing jiao fen closes) ≡ true
shown-closing jiao (suc n) closes = refl
shown-closing zero zero closes = refl
shown-closing (suc n) zero true = refl
shown-closing (suc n) zero false = refl

shown-small : (before : Before) (jiao fen : ℕ) (closes : Bool) → jiao < 10 → fen < 10
    → list_all is_proper (small_text before jiao fen closes) ≡ true
shown-small before jiao fen closes low_jiao low_fen =
    let after = after_digit before jiao in
    both-shown (places_text before (small_places jiao fen)) (closing jiao fen closes)
    (both-shown (place_text before jiao (Jiao ∷ [])) _
    (shown-place before jiao (Jiao ∷ []) low_jiao refl)
    (both-shown (place_text after fen (Fen ∷ [])) [] (shown-place after fen (Fen ∷ []) low_fen refl)
    refl))
    (shown-closing jiao fen closes)

shown-form : (choices : Choices) (p : Places) → ArePlaces p
    → list_all is_proper (amount_form choices p) ≡ true
shown-form choices p digits = by choices.currency where
  named : Bool
  named = choices.no_yuan || are_zero (small_places p.jiao p.fen)

  yuan : (before : Before) → list_all is_proper (from_yuan choices before p) ≡ true
  yuan before =
      let after = after_section before p.yuan in
      both-shown (section_text before p.yuan) _ (shown-section before p.yuan digits.3)
      (both-shown (yuan_unit after named) _ (shown-unit after named)
      (shown-small (after_yuan_unit choices.behind_yuan after named) p.jiao p.fen
      choices.behind_jiao digits.4 digits.5))

  wan : (before : Before) → list_all is_proper (from_wan choices before p) ≡ true
  wan before = both-shown (wan_text before p.wan) _
      (shown-counted before p.wan (not (is_empty p.wan)) Wan digits.2 refl)
      (yuan (after_wan choices.behind_wan before p.wan))

  yi : (before : Before) → list_all is_proper (from_yi choices before p) ≡ true
  yi before = both-shown (yi_text before p.yi) _
      (shown-counted before p.yi (is_written (after_section before p.yi)) Yi digits.1 refl)
      (wan (after_yi choices.behind_yi before p.yi))

  top : list_all is_proper (from_top choices p) ≡ true
  top = both-shown (wan_text Nothing p.wan_yi) _
      (shown-counted Nothing p.wan_yi (not (is_empty p.wan_yi)) Wan digits.0 refl)
      (yi (after_wan choices.behind_wan_yi Nothing p.wan_yi))

  by : (b : Bool) → list_all is_proper
      ((if b then Ren ∷ Min ∷ Bi ∷ [] else []) ++ from_top choices p) ≡ true
  by true = top
  by false = top

-- the digits of an amount have its value
pub places-of : (amount : ℕ) → ArePlaces (places_of amount)
places-of amount = (
  (omega arith, omega arith, omega arith, omega arith),
  (omega arith, omega arith, omega arith, omega arith),
  (omega arith, omega arith, omega arith, omega arith),
  (omega arith, omega arith, omega arith, omega arith),
  omega arith,
  omega arith,
)

section-of : (number : ℕ) → section_value (section_of number) ≡ number % 10000
section-of number = omega arith

pub amount-of : (amount : ℕ) → amount < amount_limit → amount ≡ amount_value (places_of amount)
amount-of amount low =
    omega (
      arith,
      low,
      section-of (amount / 10 ^ 14),
      section-of (amount / 10 ^ 10),
      section-of (amount / 10 ^ 6),
      section-of (amount / 100),
    )

-- a written text is an amount
pub written-amount : (variant : ChineseVariant) (form : AmountForm) (amount : ℕ) → amount < amount_limit
    → IsAmount (amount_text variant form amount) amount
written-amount variant form amount low = record {
  choices = written_as form;
  places = places_of amount;
  digits = places-of amount;
  form = capitals-read variant form (amount_form (written_as form) (places_of amount))
      (shown-form (written_as form) (places_of amount) (places-of amount));
  value = amount-of amount low;
}

pub written-scalars : (variant : ChineseVariant) (form : AmountForm) (amount : ℕ)
    → all_scalars (amount_text variant form amount) ≡ true
written-scalars variant form amount =
    capitals-scalar variant form (amount_form (written_as form) (places_of amount))
    (shown-form (written_as form) (places_of amount) (places-of amount))

pub written-read : (variant : ChineseVariant) (form : AmountForm) (amount : ℕ) → amount < amount_limit
    → ReadsAmount (encode_utf8_all (amount_text variant form amount)) (Ok amount)
written-read variant form amount low =
    subst (λ text. IsAmount text amount)
    (sym (chars-encodes (amount_text variant form amount) (written-scalars variant form amount)))
    (written-amount variant form amount low)

-- a written text has three bytes for each capital, and they are UTF-8
pub written-length : (variant : ChineseVariant) (form : AmountForm) (amount : ℕ)
    → length (encode_utf8_all (amount_text variant form amount)) ≡ 3 * length (amount_text variant form amount)
written-length variant form amount =
    every.capitals-three capital_of (capital_char variant form) is_proper (capital-back variant form)
    (amount_form (written_as form) (places_of amount))
    (shown-form (written_as form) (places_of amount) (places-of amount))

-- it has at most 117 bytes
pub few-bytes : (variant : ChineseVariant) (form : AmountForm) (amount : ℕ)
    → length (encode_utf8_all (amount_text variant form amount)) ≤ 117
few-bytes variant form amount = omega (
  arith,
  length-map (amount_form (written_as form) (places_of amount)) (capital_char variant form),
  written-length variant form amount,
  length-form (written_as form) (places_of amount),
)

pub written-utf8 : (variant : ChineseVariant) (form : AmountForm) (amount : ℕ) (bytes : List ℕ)
    → bytes ≡ encode_utf8_all (amount_text variant form amount) → IsUtf8 bytes
written-utf8 variant form amount bytes is =
    (amount_text variant form amount, (written-scalars variant form amount, sym is))

pub text-length : {Z : Type 0} (text : String Z) → string_len text ≡ length (string_bytes text)
text-length text = let ok = text.bytes.ok in omega (arith, ok)

pub written_is : {Z : Type 0} (variant : ChineseVariant) (form : AmountForm) (amount : ℕ) (text : String Z)
    (bytes : List ℕ) → amount < amount_limit → IsStringOf bytes text
    → bytes ≡ encode_utf8_all (amount_text variant form amount) → IsText variant form amount text
written_is variant form amount text bytes below is written =
    let same = is.content ∙ written in
    let size = text-length text in
    record {
      below = below;
      bytes = same;
      len = omega (arith, size, ap length same, written-length variant form amount);
      capacity = is.capacity;
    }

-- the capitals written for an amount are its text, and fit the buffer
pub text-of : (variant : ChineseVariant) (form : AmountForm) (amount : ℕ)
    (start text : Buffer) (bytes : List ℕ) → length start.bytes.now ≡ 117
    → HasPut (record { variant = variant; form = form }) start text (amount_form (written_as form) (places_of amount))
    → IsTextOf text bytes → bytes ≡ encode_utf8_all (amount_text variant form amount)
text-of variant form amount start text bytes size put of =
    puts-all _ _ start text _ bytes put of (omega (arith, few-bytes variant form amount, size))
