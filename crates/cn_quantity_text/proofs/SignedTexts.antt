-- A quantity is read from its sign and the ratio of the text without it.
use Rattle.std.proofs.Common.{◌≡◌, ℕ, ◌^◌, ◌<◌, ℤ, pos, negsuc, int_lt, nat_abs, Bool, true, false, List, [], ◌∷◌, ◌++◌, drop, encode_utf8_all, Some, None, is_none, Ok, refl, ap, ap₂, ◌∙◌, arith, if◌then◌else◌}
use Rattle.std.proofs.lemmas.Int.{ints}
use Rattle.cn_core.specs.declared.method.ChineseCountMethod.{ChineseCountMethod}
use Rattle.cn_core.specs.declared.sign.Sign.TheVariants.{Minus}
use Rattle.cn_core.specs.Reading.{sign_len, typed_number}
use Rattle.cn_core.specs.Text.{text_of}
use Rattle.cn_core.specs.Whole.{holds, signed_kind}
use Rattle.cn_quantity_text.proofs.WrittenTexts.{IsText, IsText-append, no-yen, not-below, text_of-written}
use Rattle.cn_quantity.specs.declared.quantity.QuantityForm.{QuantityForm}
use Rattle.cn_quantity.specs.declared.ratio.Ratio.{Ratio}
use Rattle.cn_quantity.specs.Answer.{and_then}
use Rattle.cn_quantity.specs.Characters.{sign_of}
use Rattle.cn_quantity.specs.Ratio.{is_negated, ratio_answer}
use Rattle.cn_quantity.specs.Reading.{front_length, is_below_zero, leading_sign, number_sign, quantity_answer, sign_length, signed_answer, yen_length}
use Rattle.cn_quantity.proofs.Signed.{not-negated, quantity-plain}
use Rattle.cn_spell.proofs.SignedNumbers.{signed_number-signed_text, typed_number-held, written_sign}

-- a text without sign that is read as this ratio
pub record IsUnsigned (method : ChineseCountMethod) (ratio : Ratio)
    (text : List ℕ) : Type 0 where
  pub written : IsText text
  pub no_sign : leading_sign text ≡ None
  pub no_minus : is_negated text ≡ false
  pub read : ratio_answer method text ≡ Ok ratio

abbrev sign_text : Bool → ℕ → List ℕ
sign_text negative minus = if negative then minus ∷ [] else []

pub sign-text : (negative : Bool) (minus : ℕ) (text : List ℕ) → IsText (minus ∷ []) → IsText text
    → IsText (sign_text negative minus ++ text)
sign-text true minus text sign is = IsText-append (minus ∷ []) text sign is
sign-text false minus text sign is = is

sign-first : (negative : Bool) (minus : ℕ) (text : List ℕ) → sign_of minus ≡ Some Minus
    → leading_sign text ≡ None
    → leading_sign (sign_text negative minus ++ text) ≡ written_sign negative
sign-first true minus text sign none = sign
sign-first false minus text sign none = none

sign-rest : (negative : Bool) (minus : ℕ) (text : List ℕ)
    → drop (sign_len (written_sign negative)) (sign_text negative minus ++ text) ≡ text
sign-rest true minus text = refl
sign-rest false minus text = refl

-- the sign that a text begins with, and the text after it
record IsFronted (negative : Bool) (whole text : List ℕ) : Type 0 where
  sign : number_sign whole ≡ written_sign negative
  rest : drop (front_length whole) whole ≡ text

front-written : {method : ChineseCountMethod} {ratio : Ratio} (negative : Bool) (minus : ℕ)
    (text : List ℕ) → sign_of minus ≡ Some Minus
    → IsText (sign_text negative minus ++ text) → IsUnsigned method ratio text
    → IsFronted negative (sign_text negative minus ++ text) text
front-written negative minus text sign whole is = record {
  sign = leads ∙ sign-first negative minus text sign is.no_sign;
  rest = ap (λ n. drop n (sign_text negative minus ++ text)) front
      ∙ sign-rest negative minus text;
} where
  all : List ℕ
  all = sign_text negative minus ++ text

  below : is_below_zero (sign_text negative minus ++ text) ≡ false
  below = not-below (sign_text negative minus ++ text) whole

  leads : number_sign (sign_text negative minus ++ text)
      ≡ leading_sign (sign_text negative minus ++ text)
  leads = ap (λ b. if b then Some Minus else leading_sign (sign_text negative minus ++ text)) below

  size : sign_length (sign_text negative minus ++ text) ≡ sign_len (written_sign negative)
  size = ap (λ b. if b then 2 else sign_len (leading_sign (sign_text negative minus ++ text))) below
      ∙ ap sign_len (sign-first negative minus text sign is.no_sign)

  yens : yen_length (drop (sign_length (sign_text negative minus ++ text))
      (sign_text negative minus ++ text)) ≡ 0
  yens = ap (λ n. yen_length (drop n (sign_text negative minus ++ text))) size
      ∙ ap yen_length (sign-rest negative minus text) ∙ no-yen text is.written

  front : front_length (sign_text negative minus ++ text) ≡ sign_len (written_sign negative)
  front = omega (arith, size, yens)

-- the magnitude of a number of 128 bits
pub magnitude-fits : (number : ℤ) → holds (signed_kind 128) number ≡ true → nat_abs number < 2 ^ 128
magnitude-fits (pos n) held = grind (arith, ints, held)
magnitude-fits (negsuc n) held = grind (arith, ints, held)

pub signed-read : (method : ChineseCountMethod) (number : ℤ) (denominator : ℕ)
    (form : QuantityForm) (minus : ℕ) (text : List ℕ) → holds (signed_kind 128) number ≡ true
    → sign_of minus ≡ Some Minus → IsText (minus ∷ [])
    → IsUnsigned method
    (record { numerator = nat_abs number; denominator = denominator; form = form }) text
    → quantity_answer method
    (encode_utf8_all ((if int_lt number (pos 0) then minus ∷ [] else []) ++ text))
    ≡ Ok (record { numerator = number; denominator = denominator; form = form })
signed-read method number denominator form minus text held sign minus_text is =
    let negative = int_lt number (pos 0) in
    let whole = sign_text negative minus ++ text in
    let bytes = encode_utf8_all whole in
    let all = text_of-written whole (sign-text negative minus text minus_text is.written) in
    let f = front-written negative minus text sign
    (sign-text negative minus text minus_text is.written) is in
    let rest : drop (front_length (text_of bytes)) (text_of bytes) ≡ text =
    ap (λ l. drop (front_length l) l) all ∙ f.rest in
    quantity-plain method bytes
    (not-negated (is_none (number_sign (text_of bytes))) _ (ap is_negated rest ∙ is.no_minus))
    ∙ ap₂ (λ s l. signed_answer bytes s (front_length (text_of bytes)) (ratio_answer method l))
    (ap number_sign all ∙ f.sign) rest
    ∙ ap (signed_answer bytes (written_sign negative) (front_length (text_of bytes))) is.read
    ∙ ap (λ n. and_then (typed_number (signed_kind 128) n) (λ numerator. Ok (record {
      numerator = numerator;
      denominator = denominator;
      form = form;
    }))) (signed_number-signed_text number)
    ∙ ap (λ a. and_then a (λ numerator. Ok (record {
      numerator = numerator;
      denominator = denominator;
      form = form;
    }))) (typed_number-held (signed_kind 128) number held)
