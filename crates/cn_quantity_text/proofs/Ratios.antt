-- The ratio that a text without sign is, from the answers to its parts.
use Rattle.std.proofs.Common.{◌≡◌, ℕ, ◌+◌, ◌*◌, ◌^◌, ◌<◌, true, false, ◌&&◌, nat_lt, List, [], ◌∷◌, ◌++◌, length, slice_index, None, Some, Ok, refl, sym, ap, ap₂, ◌∙◌, arith}
use Rattle.std.proofs.lemmas.Bool.Decides.{nat_tests}
use Rattle.cn_core.specs.declared.method.ChineseCountMethod.{ChineseCountMethod}
use Rattle.cn_quantity_text.specs.Numerals.{bar}
use Rattle.cn_quantity_text.proofs.Cuts.{bar-at, bar-none, lacks, share-none}
use Rattle.cn_quantity.specs.declared.number.Decimal.{Decimal as DecimalNumber}
use Rattle.cn_quantity.specs.declared.quantity.QuantityForm.{QuantityForm}
use Rattle.cn_quantity.specs.declared.quantity.QuantityForm.TheVariants.{Percent}
use Rattle.cn_quantity.specs.Answer.{and_then, further_by}
use Rattle.cn_quantity.specs.Characters.{is_fen, is_share, is_zhi, share_of}
use Rattle.cn_quantity.specs.Number.{divisor_answer, number_answer, part_answer}
use Rattle.cn_quantity.specs.Ratio.{after_bar, before_bar, begins_with_minus, form_of, form_over, fraction_answer, is_fraction, is_negated, mixed, ratio_answer, ratio_of, share}
use Rattle.cn_core.specs.Reading.{is_minus}
use Rattle.cn_quantity.specs.Reading.{leading_sign}
use Rattle.cn_quantity.proofs.Bars.{front-taken, share-some}
use Rattle.cn_quantity.proofs.Ratios.{a-fraction, a-number, a-share, simple-is}
use Rattle.cn_quantity.proofs.NumeralsAreQuantities.{and-none}

-- a ratio whose denominator fits
pub ratio-fits : (divisor number decimals denominator : ℕ) (form : QuantityForm)
    → divisor * 10 ^ decimals ≡ denominator → denominator < 2 ^ 128
    → ratio_of divisor form (record { number = number; decimals = decimals })
    ≡ Ok (record { numerator = number; denominator = denominator; form = form })
ratio-fits divisor number decimals denominator form is small = rw (is, fits) where
  fits : nat_lt denominator (2 ^ 128) ≡ true
  fits = grind (arith, nat_tests, small)

-- 分之 between two texts
bar-cut : (before after : List ℕ) → lacks is_fen before ≡ true
    → (before_bar (before ++ (bar ++ after)) ≡ before)
    × (after_bar (before ++ (bar ++ after)) ≡ after)
unfolding is_fen is_zhi
bar-cut before after none =
    bar-at before (slice_index bar 0) (slice_index bar 1) after none refl refl

pub fraction-ratio : (method : ChineseCountMethod) (divisor : ℕ) (decimal : DecimalNumber)
    (before after : List ℕ) → mixed method (before ++ (bar ++ after)) ≡ None
    → lacks is_fen before ≡ true → 0 < length before → 0 < length after
    → divisor_answer method before ≡ Ok divisor → part_answer method after ≡ Ok decimal
    → ratio_answer method (before ++ (bar ++ after)) ≡ ratio_of divisor (form_over divisor) decimal
fraction-ratio method divisor decimal before after simple none some many one other =
    simple-is method (before ++ (bar ++ after)) simple
    ∙ a-fraction method (before ++ (bar ++ after)) is
    ∙ ap₂ (λ b a. fraction_answer method b (length b + 2) a) cut.0 cut.1
    ∙ ap (λ a. and_then a (λ divisor.
    and_then (further_by (length before + 2) (part_answer method after))
    (λ decimal. ratio_of divisor (form_over divisor) decimal))) one
    ∙ ap (λ a. and_then (further_by (length before + 2) a)
    (λ decimal. ratio_of divisor (form_over divisor) decimal)) other where
      cut : (before_bar (before ++ (bar ++ after)) ≡ before)
          × (after_bar (before ++ (bar ++ after)) ≡ after)
      cut = bar-cut before after none

      is : is_fraction (before ++ (bar ++ after)) ≡ true
      is = rw (cut.0, cut.1) (grind (arith, nat_tests, some, many))

-- a text without 分之 is not a fraction
no-fraction : (text : List ℕ) → lacks is_fen text ≡ true → is_fraction text ≡ false
no-fraction text no_fen =
    ap (λ l. nat_lt 0 (length (before_bar text)) && nat_lt 0 (length l)) (bar-none text no_fen)
    ∙ and-none (nat_lt 0 (length (before_bar text)))

-- and it is not a fraction with a minus sign
pub no-negated : (text : List ℕ) → lacks is_fen text ≡ true → is_negated text ≡ false
no-negated text no_fen =
    ap (λ b. b && begins_with_minus (after_bar text)) (no-fraction text no_fen)

-- a fraction whose numerator begins with no sign has no minus sign
pub unsigned-over : (before after : List ℕ) → lacks is_fen before ≡ true
    → leading_sign after ≡ None → is_negated (before ++ (bar ++ after)) ≡ false
unsigned-over before after none sign =
    ap (λ l. is_fraction (before ++ (bar ++ after)) && begins_with_minus l)
    (bar-cut before after none).1
    ∙ ap (λ b. is_fraction (before ++ (bar ++ after)) && b) (no-minus after sign)
    ∙ and-none (is_fraction (before ++ (bar ++ after))) where
      no-minus : (l : List ℕ) → leading_sign l ≡ None → begins_with_minus l ≡ false
      no-minus [] h = refl
      no-minus (c ∷ []) h = refl
      no-minus (c ∷ next ∷ rest) h = ap is_minus h

-- a percent sign at the end
pub percent-ratio : (method : ChineseCountMethod) (decimal : DecimalNumber) (sign : ℕ)
    (text : List ℕ) → mixed method (text ++ sign ∷ []) ≡ None
    → lacks is_fen (text ++ sign ∷ []) ≡ true → share_of sign ≡ Some 100
    → 0 < length text → number_answer method text ≡ Ok decimal
    → ratio_answer method (text ++ sign ∷ []) ≡ ratio_of 100 Percent decimal
percent-ratio method decimal sign text simple no_fen percent some read =
    simple-is method (text ++ sign ∷ []) simple
    ∙ a-share method (text ++ sign ∷ []) 100
    (no-fraction (text ++ sign ∷ []) no_fen) (is text some)
    ∙ ap (λ l. and_then (number_answer method l) (λ decimal. ratio_of 100 Percent decimal))
    (sym (front-taken sign (text ++ sign ∷ []) text refl))
    ∙ ap (λ a. and_then a (λ decimal. ratio_of 100 Percent decimal)) read where
      is : (text : List ℕ) → 0 < length text → share (text ++ sign ∷ []) ≡ Some 100
      is [] some = absurd (omega (arith, some))
      is (c ∷ rest) some =
          share-some sign c (c ∷ rest ++ sign ∷ []) (c ∷ rest) rest refl refl ∙ percent

-- a text with neither 分之 nor a percent sign
pub number-ratio : (method : ChineseCountMethod) (decimal : DecimalNumber) (text : List ℕ)
    → mixed method text ≡ None → lacks is_fen text ≡ true → lacks is_share text ≡ true
    → number_answer method text ≡ Ok decimal
    → ratio_answer method text ≡ ratio_of 1 (form_of decimal.decimals) decimal
number-ratio method decimal text simple no_fen no_share read =
    simple-is method text simple
    ∙ a-number method text
    (no-fraction text no_fen) (share-none text no_share)
    ∙ ap (λ a. and_then a (λ decimal. ratio_of 1 (form_of decimal.decimals) decimal)) read
