-- Amounts that may be below zero, such as those of red invoices. No rule of the banks has them.
use Rattle.std.specs.Prelude.{◌≡◌, ℕ, ◌*◌, ◌<◌, ◌≤◌, ℤ, pos, int_lt, nat_abs, List, [], ◌∷◌, ◌++◌, length, codes, chars, Result, MatchResult, encode_utf8_all, string_bytes, string_len, string_capacity, if◌then◌else◌}
use Rattle.std.specs.declared.string.String.{String}
use Rattle.cn_grammar.specs.Answers.{Answers}
use Rattle.cn_core.specs.Characters.{minus_char}
use Rattle.cn_core.specs.Whole.{signed_number}
use Rattle.cn_core.specs.declared.script.ChineseVariant.{ChineseVariant}
use Rattle.cn_amount.specs.declared.error.AmountToChineseError.{AmountToChineseError}
use Rattle.cn_amount.specs.declared.error.AmountToChineseError.TheVariants.{Overflow, OutOfMemory}
use Rattle.cn_amount.specs.declared.form.AmountForm.{AmountForm}
use Rattle.cn_amount.specs.Fronts.{begins_with, without_front}
use Rattle.cn_amount.specs.Places.{amount_limit}
use Rattle.cn_amount.specs.Reading.{AmountRefusal, IsAmount}
use Rattle.cn_amount.specs.Writes.{amount_text}

-- the minus sign, in each script
abbrev pub minus_signs : List ℕ
minus_signs = codes "負负"

-- the characters are a form of an amount; or they are a minus sign and a form of an amount, and the
-- amount is then below zero, or 0 if it is 0 without the sign
pub record IsSignedAmount (text : List ℕ) (fen : ℤ) : Type 0 where
  pub magnitude : ℕ
  pub form : IsAmount (without_front minus_signs text) magnitude
  pub value : fen ≡ signed_number (begins_with minus_signs text) magnitude

-- `answer` is the answer to a string, given by its bytes
abbrev pub ReadsSignedAmount : List ℕ → Result ℤ AmountRefusal → Type 0
ReadsSignedAmount bytes answer = Answers IsSignedAmount (chars bytes) answer

-- the characters of an amount in a form, after the minus sign of the script if it is below zero
abbrev pub signed_amount_text : ChineseVariant → AmountForm → ℤ → List ℕ
signed_amount_text variant form fen =
    (if int_lt fen (pos 0) then minus_char variant ∷ [] else [])
    ++ amount_text variant form (nat_abs fen)

-- when each refusal occurs: memory is requested only if the amount is written
abbrev pub RefusesSignedAmount : ℤ → AmountToChineseError → Type 0
RefusesSignedAmount fen Overflow = amount_limit ≤ nat_abs fen
RefusesSignedAmount fen OutOfMemory = nat_abs fen < amount_limit

-- the text of an amount, with three bytes for each character; it holds no more memory than its
-- bytes
pub record IsSignedText {Z : Type 0} (variant : ChineseVariant) (form : AmountForm) (fen : ℤ)
    (text : String Z) : Type 0 where
  pub below : nat_abs fen < amount_limit
  pub bytes : string_bytes text ≡ encode_utf8_all (signed_amount_text variant form fen)
  pub len : string_len text ≡ 3 * length (signed_amount_text variant form fen)
  pub capacity : string_capacity text ≡ string_len text

-- the text of an amount in a form, or the refusal
abbrev pub WritesSignedAmount : {Z : Type 0} → ChineseVariant → AmountForm → ℤ
    → Result (String Z) AmountToChineseError → Type 0
WritesSignedAmount variant form fen result =
    MatchResult result (IsSignedText variant form fen) (RefusesSignedAmount fen)
