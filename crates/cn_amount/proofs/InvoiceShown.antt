-- What is written with the sign of a form: its bytes, and that it is read as that amount.
use Rattle.std.proofs.Common.{◌≡◌, ℕ, ◌*◌, ◌<◌, ◌≤◌, ℤ, pos, int_lt, nat_abs, Bool, true, false, List, [], ◌++◌, map, length, Ok, encode_utf8_all, refl, sym, ap, subst, ◌∙◌, if◌then◌else◌, length-append, arith}
use Rattle.std.specs.Char.{encode_utf8}
use Rattle.std.specs.List.{Contains}
use Rattle.std.specs.Str.{all_scalars}
use Rattle.std.specs.declared.string.String.{String}
use Rattle.std.proofs.Math.Utf8.{scalar}
use Rattle.std.proofs.lemmas.List.Folds.{list_all-append}
use Rattle.std.proofs.lemmas.Str.{chars-encodes, encodes-append}
use Rattle.cn_core.specs.declared.buffer.Buffer.{Buffer}
use Rattle.cn_core.specs.Buffers.{IsTextOf}
use Rattle.cn_core.specs.Strings.{IsStringOf}
use Rattle.cn_grammar.proofs.Puts.{puts-all}
use Rattle.cn_core.specs.Characters.{minus_char}
use Rattle.cn_core.specs.declared.script.ChineseVariant.{ChineseVariant}
use Rattle.cn_core.specs.declared.script.ChineseVariant.TheVariants.{Traditional, Simple}
use Rattle.cn_core.proofs.Fronts.{both}
use Rattle.cn_amount.specs.declared.capital.Capital.{Capital}
use Rattle.cn_amount.specs.declared.form.AmountForm.{AmountForm}
use Rattle.cn_amount.specs.Form.{written_as, amount_form}
use Rattle.cn_amount.specs.Invoice.{sign_text, invoice_amount_text, IsInvoiceText}
use Rattle.cn_amount.specs.Places.{amount_limit, places_of}
use Rattle.cn_amount.specs.Typed.{below_signs, signs, IsTypedSignedAmount, ReadsTypedSignedAmount}
use Rattle.cn_amount.specs.Working.Putting.{HasPut}
use Rattle.cn_amount.specs.Working.Signing.{sign_form, sign_before}
use Rattle.cn_amount.specs.Writes.{capital_char, amount_text}
use Rattle.cn_amount.proofs.FormsShown.{few-bytes, text-length, written-amount, written-length, written-scalars}
use Rattle.cn_amount.proofs.Prefixes.{has-contains}
use Rattle.cn_amount.proofs.SignedShown.{number-is}
use Rattle.cn_amount.proofs.TypedShown.{prefixed-amount}

-- the sign, if the amount is below zero
abbrev sign_if : ChineseVariant → Bool → Bool → List ℕ
sign_if variant bracketed below = if below then sign_text variant bracketed else []

-- the sign has three bytes for each character, and is one that is read
record IsSign (below : Bool) (sign : List ℕ) : Type 0 where
  size : length (encode_utf8_all sign) ≡ 3 * length sign
  few : length sign ≤ 4
  scalars : all_scalars sign ≡ true
  read : Contains (signs below) sign

is-sign : (variant : ChineseVariant) (bracketed below : Bool)
    → IsSign below (sign_if variant bracketed below)
unfolding minus_char encode_utf8
is-sign variant bracketed false =
    record { size = refl; few = omega arith; scalars = refl; read = (0, omega arith, refl) }
is-sign Simple false true = record {
  size = refl;
  few = omega arith;
  scalars = refl;
  read = has-contains below_signs (sign_text Simple false) refl;
}
is-sign Traditional false true = record {
  size = refl;
  few = omega arith;
  scalars = refl;
  read = has-contains below_signs (sign_text Traditional false) refl;
}
is-sign Simple true true = record {
  size = refl;
  few = omega arith;
  scalars = refl;
  read = has-contains below_signs (sign_text Simple true) refl;
}
is-sign Traditional true true = record {
  size = refl;
  few = omega arith;
  scalars = refl;
  read = has-contains below_signs (sign_text Traditional true) refl;
}

both-scalars : (front back : List ℕ) → all_scalars front ≡ true → all_scalars back ≡ true
    → all_scalars (front ++ back) ≡ true
both-scalars front back p q = list_all-append scalar front back
    ∙ both (all_scalars front) (all_scalars back) p q

pub written-invoice : (variant : ChineseVariant) (form : AmountForm) (fen : ℤ)
    → nat_abs fen < amount_limit
    → ReadsTypedSignedAmount (encode_utf8_all (invoice_amount_text variant form fen)) (Ok fen)
written-invoice variant form fen low =
    let below = int_lt fen (pos 0) in
    let text = amount_text variant form (nat_abs fen) in
    let sign = sign_if variant form.bracketed_sign below in
    let is = is-sign variant form.bracketed_sign below in
    let scalars = both-scalars sign text is.scalars (written-scalars variant form (nat_abs fen)) in
    subst (λ text. IsTypedSignedAmount text fen) (sym (chars-encodes (sign ++ text) scalars))
    (record {
      below = below;
      magnitude = nat_abs fen;
      form = prefixed-amount below sign text (nat_abs fen) is.read
          (written-amount variant form (nat_abs fen) low);
      value = sym (number-is fen);
    })

-- the text has three bytes for each character, and fits the buffer
size-of : (variant : ChineseVariant) (form : AmountForm) (fen : ℤ)
    → length (encode_utf8_all (invoice_amount_text variant form fen))
    ≡ 3 * length (invoice_amount_text variant form fen)
size-of variant form fen =
    let text = amount_text variant form (nat_abs fen) in
    let sign = sign_if variant form.bracketed_sign (int_lt fen (pos 0)) in
    let is = is-sign variant form.bracketed_sign (int_lt fen (pos 0)) in
    omega (
      arith,
      ap length (encodes-append sign text),
      length-append (encode_utf8_all sign) (encode_utf8_all text),
      length-append sign text,
      is.size,
      written-length variant form (nat_abs fen),
    )

pub few-of : (variant : ChineseVariant) (form : AmountForm) (fen : ℤ)
    → length (encode_utf8_all (invoice_amount_text variant form fen)) ≤ 129
few-of variant form fen =
    let text = amount_text variant form (nat_abs fen) in
    let sign = sign_if variant form.bracketed_sign (int_lt fen (pos 0)) in
    let is = is-sign variant form.bracketed_sign (int_lt fen (pos 0)) in
    omega (
      arith,
      ap length (encodes-append sign text),
      length-append (encode_utf8_all sign) (encode_utf8_all text),
      is.size,
      is.few,
      few-bytes variant form (nat_abs fen),
    )

form-append : (variant : ChineseVariant) (form : AmountForm) (bracketed below : Bool)
    (capitals : List Capital)
    → map (capital_char variant form) ((if below then sign_form bracketed else []) ++ capitals)
    ≡ sign_if variant bracketed below ++ map (capital_char variant form) capitals
unfolding minus_char
form-append variant form bracketed false capitals = refl
form-append variant form false true capitals = refl
form-append Simple form true true capitals = refl
form-append Traditional form true true capitals = refl

-- the capitals written are the text, and fit the buffer
pub invoice-text-of : (variant : ChineseVariant) (form : AmountForm) (fen : ℤ)
    (start text : Buffer) (bytes : List ℕ) → length start.bytes.now ≡ 129
    → HasPut (record { variant = variant; form = form }) start text
    (sign_before form.bracketed_sign fen ++ amount_form (written_as form) (places_of (nat_abs fen)))
    → IsTextOf text bytes → bytes ≡ encode_utf8_all (invoice_amount_text variant form fen)
invoice-text-of variant form fen start text bytes size put of =
    let capitals = amount_form (written_as form) (places_of (nat_abs fen)) in
    let same = ap encode_utf8_all
    (form-append variant form form.bracketed_sign (int_lt fen (pos 0)) capitals) in
    puts-all _ _ start text _ bytes put of
    (omega (arith, few-of variant form fen, ap length same, size)) ∙ same

pub invoice_is : {Z : Type 0} (variant : ChineseVariant) (form : AmountForm) (fen : ℤ)
    (text : String Z) (bytes : List ℕ) → nat_abs fen < amount_limit → IsStringOf bytes text
    → bytes ≡ encode_utf8_all (invoice_amount_text variant form fen)
    → IsInvoiceText variant form fen text
invoice_is variant form fen text bytes below is written =
    let same = is.content ∙ written in
    let size = text-length text in
    record {
      below = below;
      bytes = same;
      len = omega (arith, size, ap length same, size-of variant form fen);
      capacity = is.capacity;
    }
