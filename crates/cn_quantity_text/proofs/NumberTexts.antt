-- A text that is a number by itself is read as a whole number or a decimal.
use Rattle.std.proofs.Common.{◌≡◌, ℕ, zero, suc, ◌^◌, ◌<◌, true, List, None, Some, Ok, refl, sym, ap, ◌∙◌, arith}
use Rattle.cn_core.specs.declared.method.ChineseCountMethod.{ChineseCountMethod}
use Rattle.cn_quantity_text.proofs.BareTexts.{are_bare, bare-no_fen, bare-no_share, bare-text}
use Rattle.cn_quantity_text.proofs.Ratios.{no-negated, number-ratio, ratio-fits}
use Rattle.cn_quantity_text.proofs.SignedTexts.{IsUnsigned}
use Rattle.cn_quantity_text.proofs.WrittenTexts.{not-mixed}
use Rattle.cn_quantity.specs.declared.number.Decimal.{Decimal as DecimalNumber}
use Rattle.cn_quantity.specs.declared.quantity.QuantityForm.{QuantityForm}
use Rattle.cn_quantity.specs.declared.quantity.QuantityForm.TheVariants.{Whole, Decimal}
use Rattle.cn_quantity.specs.Number.{number_answer}
use Rattle.cn_quantity.specs.Ratio.{form_of}
use Rattle.cn_quantity.specs.Reading.{leading_sign}
use Rattle.cn_quantity.specs.Trimmed.{decimals_in}
use Rattle.cn_quantity.proofs.KnownDecimals.{decimal-is, whole-is}

-- the properties of a written number with decimals
pub record IsNumberText (method : ChineseCountMethod) (decimal : DecimalNumber)
    (text : List ℕ) : Type 0 where
  pub bare : are_bare text ≡ true
  pub no_sign : leading_sign text ≡ None
  pub read : number_answer method text ≡ Ok decimal

IsUnsigned-number : (method : ChineseCountMethod) (number decimals denominator : ℕ)
    (form : QuantityForm) (text : List ℕ)
    → IsNumberText method (record { number = number; decimals = decimals }) text
    → form_of decimals ≡ form → 10 ^ decimals ≡ denominator → denominator < 2 ^ 128
    → IsUnsigned method
    (record { numerator = number; denominator = denominator; form = form }) text
IsUnsigned-number method number decimals denominator form text n form_is is small = record {
  written = bare-text text n.bare;
  no_sign = n.no_sign;
  no_minus = no-negated text (bare-no_fen text n.bare);
  read = number-ratio method (record { number = number; decimals = decimals }) text
      (not-mixed method text (bare-text text n.bare)) (bare-no_fen text n.bare) (bare-no_share text n.bare) n.read
      ∙ ratio-fits 1 number decimals denominator (form_of decimals) (omega (arith, is)) small
      ∙ ap (λ form. Ok (record {
        numerator = number;
        denominator = denominator;
        form = form;
      })) form_is;
}

-- without decimals it is read as a whole number
pub IsUnsigned-whole : (method : ChineseCountMethod) (number decimals denominator : ℕ)
    (text : List ℕ) → IsNumberText method (record { number = number; decimals = decimals }) text
    → decimals_in Whole denominator ≡ Some decimals → denominator < 2 ^ 128
    → IsUnsigned method
    (record { numerator = number; denominator = denominator; form = Whole }) text
IsUnsigned-whole method number decimals denominator text n is small =
    let known = whole-is denominator decimals is in
    IsUnsigned-number method number decimals denominator Whole text n (ap form_of known.0)
    (ap (λ n. 10 ^ n) known.0 ∙ sym known.1) small

-- with decimals it is read as a decimal
form-some : (decimals : ℕ) → 0 < decimals → form_of decimals ≡ Decimal
form-some zero some = absurd (omega (arith, some))
form-some (suc decimals) some = refl

pub IsUnsigned-decimal : (method : ChineseCountMethod) (number decimals denominator : ℕ)
    (text : List ℕ) → IsNumberText method (record { number = number; decimals = decimals }) text
    → decimals_in Decimal denominator ≡ Some decimals → denominator < 2 ^ 128
    → IsUnsigned method
    (record { numerator = number; denominator = denominator; form = Decimal }) text
IsUnsigned-decimal method number decimals denominator text n is small =
    let known = decimal-is denominator decimals is in
    IsUnsigned-number method number decimals denominator Decimal text n
    (form-some decimals known.0) known.1 small
