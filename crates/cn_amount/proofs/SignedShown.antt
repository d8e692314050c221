-- What is written for an amount that may be below zero: its bytes, and that it is read as that
-- amount.
use Rattle.std.proofs.Common.{◌≡◌, ℕ, ◌*◌, ◌<◌, ◌≤◌, ℤ, pos, negsuc, int_lt, nat_abs, zero, suc, Bool, true, false, not, List, [], ◌∷◌, ◌++◌, map, length, Ok, encode_utf8_all, refl, sym, ap, subst, ◌∙◌, if◌then◌else◌, length-append, arith}
use Rattle.std.specs.Char.{char_set_contains, encode_utf8}
use Rattle.std.specs.Str.{all_scalars}
use Rattle.std.specs.declared.string.String.{String}
use Rattle.std.proofs.Math.Utf8.{scalar}
use Rattle.std.proofs.lemmas.Int.{ints}
use Rattle.std.proofs.lemmas.Str.{chars-encodes}
use Rattle.cn_core.specs.declared.buffer.Buffer.{Buffer}
use Rattle.cn_core.specs.Buffers.{IsTextOf}
use Rattle.cn_core.specs.Strings.{IsStringOf}
use Rattle.cn_grammar.proofs.Puts.{puts-all}
use Rattle.cn_core.specs.Characters.{minus_char}
use Rattle.cn_core.specs.Whole.{signed_number}
use Rattle.cn_core.specs.declared.script.ChineseVariant.{ChineseVariant}
use Rattle.cn_core.specs.declared.script.ChineseVariant.TheVariants.{Traditional, Simple}
use Rattle.cn_core.proofs.Fronts.{and-left, both}
use Rattle.cn_amount.specs.declared.capital.Capital.{Capital}
use Rattle.cn_amount.specs.declared.capital.Capital.TheVariants.{Fu}
use Rattle.cn_amount.specs.declared.form.AmountForm.{AmountForm}
use Rattle.cn_amount.specs.Form.{written_as, amount_form}
use Rattle.cn_amount.specs.Fronts.{begins_with, without_front}
use Rattle.cn_amount.specs.Places.{amount_limit, places_of}
use Rattle.cn_amount.specs.Reading.{IsAmount}
use Rattle.cn_amount.specs.Signed.{minus_signs, IsSignedAmount, ReadsSignedAmount, IsSignedText, signed_amount_text}
use Rattle.cn_amount.specs.Working.Putting.{HasPut}
use Rattle.cn_amount.specs.Writes.{capital_char, amount_text}
use Rattle.cn_amount.proofs.AmountCharacters.{amount-passes}
use Rattle.cn_amount.proofs.FormsShown.{few-bytes, text-length, written-amount, written-length, written-scalars}

-- the text after the sign, if there is one
abbrev behind_sign : ChineseVariant → Bool → List ℕ → List ℕ
behind_sign variant below text = (if below then minus_char variant ∷ [] else []) ++ text

sign-three : (variant : ChineseVariant) → length (encode_utf8 (minus_char variant)) ≡ 3
unfolding minus_char encode_utf8
sign-three Simple = refl
sign-three Traditional = refl

sign-scalar : (variant : ChineseVariant) → scalar (minus_char variant) ≡ true
unfolding minus_char
sign-scalar Simple = refl
sign-scalar Traditional = refl

sign-read : (variant : ChineseVariant) → char_set_contains minus_signs (minus_char variant) ≡ true
unfolding minus_char
sign-read Simple = refl
sign-read Traditional = refl

-- a form has no sign before it
pub no-sign : (text : List ℕ) (fen : ℕ) → IsAmount text fen
    → (without_front minus_signs text ≡ text) × (begins_with minus_signs text ≡ false)
no-sign [] fen h = (refl, refl)
no-sign (c ∷ text) fen h =
    by (char_set_contains minus_signs c)
    (and-left (not (char_set_contains minus_signs c)) _
    (amount-passes (λ c. not (char_set_contains minus_signs c)) refl (c ∷ text) fen h)) where
      by : (b : Bool) → not b ≡ true
          → ((if b then text else c ∷ text) ≡ c ∷ text) × (b ≡ false)
      by true e = absurd (cc)
      by false e = (refl, refl)

-- an amount is also an amount that may be below zero
pub amount-signed : (text : List ℕ) (fen : ℕ) → IsAmount text fen → IsSignedAmount text (pos fen)
amount-signed text fen h =
    let none = no-sign text fen h in
    record {
      magnitude = fen;
      form = subst (λ l. IsAmount l fen) (sym none.0) h;
      value = ap (λ b. signed_number b fen) (sym none.1);
    }

-- after a sign it is the negated amount
signed-below : (variant : ChineseVariant) (text : List ℕ) (fen : ℕ) → IsAmount text fen
    → IsSignedAmount (minus_char variant ∷ text) (signed_number true fen)
signed-below variant text fen h = record {
  magnitude = fen;
  form = rw (sign-read variant) h;
  value = ap (λ b. signed_number b fen) (sym (sign-read variant));
}

written-behind : (variant : ChineseVariant) (below : Bool) (text : List ℕ) (fen : ℕ)
    → IsAmount text fen
    → IsSignedAmount (behind_sign variant below text) (signed_number below fen)
written-behind variant true text fen h = signed-below variant text fen h
written-behind variant false text fen h = amount-signed text fen h

not-below : (n : ℕ) → int_lt (pos n) (pos 0) ≡ false
not-below n = grind (arith, ints)

pub number-is : (fen : ℤ) → signed_number (int_lt fen (pos 0)) (nat_abs fen) ≡ fen
number-is (pos n) = rw (not-below n)
number-is (negsuc n) = refl

pub magnitude-is : (below : Bool) (magnitude : ℕ) → nat_abs (signed_number below magnitude) ≡ magnitude
magnitude-is true zero = refl
magnitude-is true (suc n) = refl
magnitude-is false magnitude = refl

scalars-behind : (variant : ChineseVariant) (below : Bool) (text : List ℕ)
    → all_scalars text ≡ true → all_scalars (behind_sign variant below text) ≡ true
scalars-behind variant true text h = both (scalar (minus_char variant)) _ (sign-scalar variant) h
scalars-behind variant false text h = h

pub written-signed : (variant : ChineseVariant) (form : AmountForm) (fen : ℤ)
    → nat_abs fen < amount_limit
    → ReadsSignedAmount (encode_utf8_all (signed_amount_text variant form fen)) (Ok fen)
written-signed variant form fen low =
    let text = amount_text variant form (nat_abs fen) in
    let below = int_lt fen (pos 0) in
    let is = written-behind variant below text (nat_abs fen)
    (written-amount variant form (nat_abs fen) low) in
    subst (λ text. IsSignedAmount text fen)
    (sym (chars-encodes (behind_sign variant below text)
    (scalars-behind variant below text (written-scalars variant form (nat_abs fen)))))
    (subst (λ fen. IsSignedAmount (behind_sign variant below text) fen) (number-is fen) is)

-- the text has three bytes for each character, and fits the buffer
length-behind : (variant : ChineseVariant) (below : Bool) (text : List ℕ)
    → length (encode_utf8_all text) ≡ 3 * length text
    → length (encode_utf8_all (behind_sign variant below text))
    ≡ 3 * length (behind_sign variant below text)
length-behind variant true text h =
    let sum = length-append (encode_utf8 (minus_char variant)) (encode_utf8_all text) in
    omega (arith, sign-three variant, h, sum)
length-behind variant false text h = h

few-behind : (variant : ChineseVariant) (below : Bool) (text : List ℕ)
    → length (encode_utf8_all text) ≤ 117
    → length (encode_utf8_all (behind_sign variant below text)) ≤ 120
few-behind variant true text h =
    let sum = length-append (encode_utf8 (minus_char variant)) (encode_utf8_all text) in
    omega (arith, sign-three variant, h, sum)
few-behind variant false text h = omega (arith, h)

pub few-signed : (variant : ChineseVariant) (form : AmountForm) (fen : ℤ)
    → length (encode_utf8_all (signed_amount_text variant form fen)) ≤ 120
few-signed variant form fen =
    few-behind variant (int_lt fen (pos 0)) (amount_text variant form (nat_abs fen))
    (few-bytes variant form (nat_abs fen))

form-append : (variant : ChineseVariant) (form : AmountForm) (below : Bool)
    (capitals : List Capital)
    → map (capital_char variant form) ((if below then Fu ∷ [] else []) ++ capitals)
    ≡ behind_sign variant below (map (capital_char variant form) capitals)
form-append variant form true capitals = refl
form-append variant form false capitals = refl

-- the capitals written are the text, and fit the buffer
pub signed-text-of : (variant : ChineseVariant) (form : AmountForm) (fen : ℤ)
    (start text : Buffer) (bytes : List ℕ) → length start.bytes.now ≡ 120
    → HasPut (record { variant = variant; form = form }) start text
    ((if int_lt fen (pos 0) then Fu ∷ [] else [])
    ++ amount_form (written_as form) (places_of (nat_abs fen)))
    → IsTextOf text bytes → bytes ≡ encode_utf8_all (signed_amount_text variant form fen)
signed-text-of variant form fen start text bytes size put of =
    let below = int_lt fen (pos 0) in
    let capitals = amount_form (written_as form) (places_of (nat_abs fen)) in
    let same = ap encode_utf8_all (form-append variant form below capitals) in
    let few = few-behind variant below (map (capital_char variant form) capitals)
    (few-bytes variant form (nat_abs fen)) in
    puts-all _ _ start text _ bytes put of (omega (arith, few, ap length same, size)) ∙ same

pub signed_is : {Z : Type 0} (variant : ChineseVariant) (form : AmountForm) (fen : ℤ)
    (text : String Z) (bytes : List ℕ) → nat_abs fen < amount_limit → IsStringOf bytes text
    → bytes ≡ encode_utf8_all (signed_amount_text variant form fen)
    → IsSignedText variant form fen text
signed_is variant form fen text bytes below is written =
    let same = is.content ∙ written in
    let size = text-length text in
    let three = length-behind variant (int_lt fen (pos 0)) (amount_text variant form (nat_abs fen))
    (written-length variant form (nat_abs fen)) in
    record {
      below = below;
      bytes = same;
      len = omega (arith, size, ap length same, three);
      capacity = is.capacity;
    }
