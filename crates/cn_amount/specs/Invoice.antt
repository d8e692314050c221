-- How an amount that may be below zero is written with the sign of its form, as on red invoices.
use Rattle.std.specs.Prelude.{◌≡◌, ℕ, ◌*◌, ◌<◌, ℤ, pos, int_lt, nat_abs, Bool, true, false, List, [], ◌∷◌, ◌++◌, length, codes, Result, MatchResult, encode_utf8_all, string_bytes, string_len, string_capacity, if◌then◌else◌}
use Rattle.std.specs.declared.string.String.{String}
use Rattle.cn_core.specs.Characters.{minus_char}
use Rattle.cn_core.specs.declared.script.ChineseVariant.{ChineseVariant}
use Rattle.cn_core.specs.declared.script.ChineseVariant.TheVariants.{Traditional, Simple}
use Rattle.cn_amount.specs.declared.error.AmountToChineseError.{AmountToChineseError}
use Rattle.cn_amount.specs.declared.form.AmountForm.{AmountForm}
use Rattle.cn_amount.specs.Places.{amount_limit}
use Rattle.cn_amount.specs.Signed.{RefusesSignedAmount}
use Rattle.cn_amount.specs.Writes.{amount_text}

-- the sign of an amount below zero: 负 (負), or in brackets （负数） (（負數）)
abbrev pub sign_text : ChineseVariant → Bool → List ℕ
sign_text variant false = minus_char variant ∷ []
sign_text Simple true = codes "（负数）"
sign_text Traditional true = codes "（負數）"

-- the characters of an amount in a form, after the sign of the form if it is below zero
abbrev pub invoice_amount_text : ChineseVariant → AmountForm → ℤ → List ℕ
invoice_amount_text variant form fen =
    (if int_lt fen (pos 0) then sign_text variant form.bracketed_sign else [])
    ++ amount_text variant form (nat_abs fen)

-- the text of an amount, with three bytes for each character; it holds no more memory than its
-- bytes
pub record IsInvoiceText {Z : Type 0} (variant : ChineseVariant) (form : AmountForm) (fen : ℤ)
    (text : String Z) : Type 0 where
  pub below : nat_abs fen < amount_limit
  pub bytes : string_bytes text ≡ encode_utf8_all (invoice_amount_text variant form fen)
  pub len : string_len text ≡ 3 * length (invoice_amount_text variant form fen)
  pub capacity : string_capacity text ≡ string_len text

-- the text of an amount in a form, or the refusal
abbrev pub WritesInvoiceAmount : {Z : Type 0} → ChineseVariant → AmountForm → ℤ
    → Result (String Z) AmountToChineseError → Type 0
WritesInvoiceAmount variant form fen result =
    MatchResult result (IsInvoiceText variant form fen) (RefusesSignedAmount fen)
