-- What is printed for an amount that may be below zero is read back as the same amount.
use Rattle.std.proofs.Common.{◌≡◌, ℕ, ◌<◌, ℤ, pos, int_lt, nat_abs, nat_lt, ◌++◌, Bool, true, false, MatchBool, List, [], take, chars, encode_utf8_all, Option, Some, None, Result, Ok, if◌then◌else◌, refl, sym, ap, subst, ◌∙◌, arith}
use Rattle.std.proofs.lemmas.Bool.{ltb-true}
use Rattle.std.proofs.lemmas.Str.{IsUtf8-append, encodes-append}
use Rattle.std.specs.Str.{IsUtf8}
use Rattle.cn_core.specs.Characters.{minus_char}
use Rattle.cn_core.specs.declared.script.ChineseVariant.{ChineseVariant}
use Rattle.cn_core.specs.declared.script.ChineseVariant.TheVariants.{Traditional, Simple}
use Rattle.cn_amount.specs.declared.form.AmountForm.{AmountForm}
use Rattle.cn_amount.specs.Invoice.{invoice_amount_text, sign_text}
use Rattle.cn_amount.specs.Places.{amount_limit}
use Rattle.cn_amount.specs.Reading.{AmountRefusal}
use Rattle.cn_amount.specs.Signed.{IsSignedAmount, ReadsSignedAmount, signed_amount_text}
use Rattle.cn_amount.specs.Typed.{IsTypedSignedAmount, ReadsTypedSignedAmount}
use Rattle.cn_amount.specs.Working.Signs.{signed_machine}
use Rattle.cn_amount.specs.Working.Typing.{typed_signed_machine}
use Rattle.cn_amount.specs.Writes.{amount_text}
use Rattle.cn_amount.proofs.FormsShown.{written-utf8}
use Rattle.cn_amount.proofs.InvoiceShown.{written-invoice}
use Rattle.cn_amount.proofs.SignedReads.{signed_reads}
use Rattle.cn_amount.proofs.SignedShown.{written-signed}
use Rattle.cn_amount.proofs.TypedReads.{typed_signed_reads}
use Rattle.cn_grammar.proofs.OneAnswer as every
use Rattle.cn_c.specs.declared.signed_amount.SignedAmount.{SignedAmount}
use Rattle.cn_c.specs.Codes.{form_of, has_flag, CN_BRACKETED_SIGN, CN_DONE, CN_TOO_LARGE, CN_TOO_SMALL}
use Rattle.cn_c.specs.Prints.{PutsNothing, PutsIfItFits}
use Rattle.cn_c.specs.SignedAmounts.{no_signed, signed_told, TellsSigned, IsSignedRead, IsSignedPrintedAs, IsTypedSignedRead}
use Rattle.cn_c.proofs.ReadBack.{put-text, utf8-scalars}
use Rattle.cn_c.proofs.ToldBack.{told-back}

sign-utf8 : (script : ChineseVariant) (bracketed below : Bool)
    → IsUtf8 (encode_utf8_all (if below then sign_text script bracketed else []))
unfolding minus_char
sign-utf8 script bracketed false = utf8-scalars [] refl
sign-utf8 Simple false true = utf8-scalars (sign_text Simple false) refl
sign-utf8 Traditional false true = utf8-scalars (sign_text Traditional false) refl
sign-utf8 Simple true true = utf8-scalars (sign_text Simple true) refl
sign-utf8 Traditional true true = utf8-scalars (sign_text Traditional true) refl

-- what is written is UTF-8
signed-utf8 : (script : ChineseVariant) (form : AmountForm) (fen : ℤ)
    → IsUtf8 (encode_utf8_all (invoice_amount_text script form fen))
signed-utf8 script form fen =
    let sign = if int_lt fen (pos 0) then sign_text script form.bracketed_sign else [] in
    let text = amount_text script form (nat_abs fen) in
    subst IsUtf8 (sym (encodes-append sign text)) (IsUtf8-append _ _
    (sign-utf8 script form.bracketed_sign (int_lt fen (pos 0)))
    (written-utf8 script form (nat_abs fen) _ refl))

-- a printed text, and what it is printed for
record IsText (fen : ℤ) (form : Option AmountForm) (text : List ℕ) : Type 0 where
  script : ChineseVariant
  chosen : AmountForm
  is_chosen : form ≡ Some chosen
  below : nat_abs fen < amount_limit
  is : text ≡ encode_utf8_all (invoice_amount_text script chosen fen)

printed-text : (fen : ℤ) (script : Option ChineseVariant) (form : Option AmountForm)
    (old new : List ℕ) (len : ℕ) → IsSignedPrintedAs fen script form old CN_DONE new len
    → IsText fen form (take len new)
printed-text fen None form old new len printed = absurd (omega (arith, printed.0))
printed-text fen (Some script) None old new len printed = absurd (omega (arith, printed.0))
printed-text fen (Some script) (Some form) old new len printed =
    by (nat_lt (nat_abs fen) amount_limit) refl printed where
      bytes : List ℕ
      bytes = encode_utf8_all (invoice_amount_text script form fen)

      other : (below : Bool) → CN_DONE ≡ (if below then CN_TOO_SMALL else CN_TOO_LARGE) → ⊥
      other true e = omega (arith, e)
      other false e = omega (arith, e)

      by : (b : Bool) → nat_lt (nat_abs fen) amount_limit ≡ b
          → MatchBool b (PutsIfItFits bytes old CN_DONE new len)
          (PutsNothing (if int_lt fen (pos 0) then CN_TOO_SMALL else CN_TOO_LARGE) old CN_DONE new len)
          → IsText fen (Some form) (take len new)
      by true e h = record {
        script = script;
        chosen = form;
        is_chosen = refl;
        below = ltb-true (nat_abs fen) amount_limit e;
        is = put-text bytes old new len h;
      }
      by false e h = absurd (other (int_lt fen (pos 0)) h.0)

text-utf8 : (fen : ℤ) (form : Option AmountForm) (text : List ℕ) → IsText fen form text → IsUtf8 text
text-utf8 fen form text it = subst IsUtf8 (sym it.is) (signed-utf8 it.script it.chosen fen)

-- the one answer to a printed text is the amount
typed-answer : (fen : ℤ) (form : Option AmountForm) (text : List ℕ) (answer : Result ℤ AmountRefusal)
    → IsText fen form text → ReadsTypedSignedAmount text answer → answer ≡ Ok fen
typed-answer fen form text answer it reads =
    every.one-answer IsTypedSignedAmount
    (every.one-value IsTypedSignedAmount typed_signed_machine typed_signed_reads) (chars text) answer
    (Ok fen) reads
    (subst (λ text. ReadsTypedSignedAmount text (Ok fen)) (sym it.is)
    (written-invoice it.script it.chosen fen it.below))

pub typed-back : (fen : ℤ) (script : Option ChineseVariant) (form : Option AmountForm)
    (old new : List ℕ) (len : ℕ) → IsSignedPrintedAs fen script form old CN_DONE new len
    → IsUtf8 (take len new)
    × ((status : ℕ) (amount : SignedAmount) → IsTypedSignedRead (take len new) status amount
    → (status ≡ CN_DONE) × (amount ≡ signed_told fen))
typed-back fen script form old new len printed =
    let it = printed-text fen script form old new len printed in
    let utf8 = text-utf8 fen form (take len new) it in (
      utf8,
      told-back ReadsTypedSignedAmount TellsSigned (λ status amount. (status ≡ 5) × (amount ≡ no_signed 0 0)) (take len new) fen utf8
          (λ answer. typed-answer fen form (take len new) answer it),
    )

-- whether a form writes the sign in brackets
abbrev bracketed_of : Option AmountForm → Bool
bracketed_of (Some form) = form.bracketed_sign
bracketed_of None = false

unbracketed : (flags : ℕ) (form : AmountForm) → has_flag flags CN_BRACKETED_SIGN ≡ false
    → form_of flags ≡ Some form → form.bracketed_sign ≡ false
unbracketed flags form without e = sym (ap bracketed_of e) ∙ by (nat_lt flags 16) where
  by : (b : Bool) → bracketed_of (if b then Some (record {
    currency = has_flag flags 1;
    round_yuan = has_flag flags 2;
    upright_closing = has_flag flags 4;
    bracketed_sign = has_flag flags 8;
  }) else None) ≡ false
  by true = without
  by false = refl

-- without brackets the text is that of the strict reader
strict-text : (fen : ℤ) (flags : ℕ) (text : List ℕ) → has_flag flags CN_BRACKETED_SIGN ≡ false
    → (it : IsText fen (form_of flags) text)
    → text ≡ encode_utf8_all (signed_amount_text it.script it.chosen fen)
strict-text fen flags text without it = it.is
    ∙ ap (λ bracketed. encode_utf8_all
    ((if int_lt fen (pos 0) then sign_text it.script bracketed else [])
    ++ amount_text it.script it.chosen (nat_abs fen)))
    (unbracketed flags it.chosen without it.is_chosen)

strict-answer : (fen : ℤ) (flags : ℕ) (text : List ℕ) (answer : Result ℤ AmountRefusal)
    → has_flag flags CN_BRACKETED_SIGN ≡ false → IsText fen (form_of flags) text
    → ReadsSignedAmount text answer → answer ≡ Ok fen
strict-answer fen flags text answer without it reads =
    every.one-answer IsSignedAmount (every.one-value IsSignedAmount signed_machine signed_reads)
    (chars text) answer (Ok fen) reads
    (subst (λ text. ReadsSignedAmount text (Ok fen)) (sym (strict-text fen flags text without it))
    (written-signed it.script it.chosen fen it.below))

pub strict-back : (fen : ℤ) (script : Option ChineseVariant) (flags : ℕ) (old new : List ℕ) (len : ℕ)
    → has_flag flags CN_BRACKETED_SIGN ≡ false
    → IsSignedPrintedAs fen script (form_of flags) old CN_DONE new len
    → (status : ℕ) (amount : SignedAmount) → IsSignedRead (take len new) status amount
    → (status ≡ CN_DONE) × (amount ≡ signed_told fen)
strict-back fen script flags old new len without printed =
    let it = printed-text fen script (form_of flags) old new len printed in
    told-back ReadsSignedAmount TellsSigned (λ status amount. (status ≡ 5) × (amount ≡ no_signed 0 0)) (take len new) fen
    (text-utf8 fen (form_of flags) (take len new) it)
    (λ answer. strict-answer fen flags (take len new) answer without it)
