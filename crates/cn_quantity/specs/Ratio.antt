-- The value of a text without sign: a fraction, a percentage, or a number by itself.
use Rattle.std.specs.Prelude.{ℕ, zero, suc, ◌+◌, ◌-◌, ◌*◌, ◌^◌, Bool, false, ◌&&◌, ◌==◌, nat_lt, List, [], ◌∷◌, length, take, drop, Option, Some, None, Result, Ok, Err, if◌then◌else◌}
use Rattle.std.specs.Option.{option_map_or}
use Rattle.cn_core.specs.declared.method.ChineseCountMethod.{ChineseCountMethod}
use Rattle.cn_core.specs.Reading.{is_minus}
use Rattle.cn_core.specs.Refusal.{Refusal, too_large}
use Rattle.cn_quantity.specs.declared.number.Decimal.{Decimal as DecimalNumber}
use Rattle.cn_quantity.specs.declared.quantity.QuantityForm.{QuantityForm}
use Rattle.cn_quantity.specs.declared.quantity.QuantityForm.TheVariants.{Whole, Decimal, Percent, Fraction}
use Rattle.cn_quantity.specs.declared.ratio.Ratio.{Ratio}
use Rattle.cn_quantity.specs.Answer.{and_then, further_by}
use Rattle.cn_quantity.specs.Characters.{is_fen, is_you, is_zhi, share_of, sign_of}
use Rattle.cn_quantity.specs.Number.{divisor_answer, number_answer, part_answer}
use Rattle.cn_quantity.specs.WholeNumber.{whole_answer}

-- a number over a divisor, as written, if the denominator fits 128 bits: 12.5 over 100 is 125/1000
abbrev pub ratio_of : ℕ → QuantityForm → DecimalNumber → Result Ratio Refusal
ratio_of divisor form decimal =
    let denominator = divisor * 10 ^ decimal.decimals in
    if nat_lt denominator (2 ^ 128)
    then Ok (record { numerator = decimal.number; denominator = denominator; form = form })
    else Err too_large

-- the form of a number by itself, given the number of its decimals
abbrev pub form_of : ℕ → QuantityForm
form_of zero = Whole
form_of (suc more) = Decimal

-- the text begins with 之
abbrev pub begins_with_zhi : List ℕ → Bool
begins_with_zhi [] = false
begins_with_zhi (c ∷ rest) = is_zhi c

-- the text before the first 分之, and the text after it
abbrev pub before_bar : List ℕ → List ℕ
before_bar [] = []
before_bar (c ∷ rest) = if is_fen c && begins_with_zhi rest then [] else c ∷ before_bar rest

abbrev pub after_bar : List ℕ → List ℕ
after_bar [] = []
after_bar (c ∷ []) = []
after_bar (c ∷ next ∷ rest) = if is_fen c && is_zhi next then rest else after_bar (next ∷ rest)

-- the text has 分之, and characters before and after it
abbrev pub is_fraction : List ℕ → Bool
is_fraction text = nat_lt 0 (length (before_bar text)) && nat_lt 0 (length (after_bar text))

-- the form of a number over this divisor: with 100 it is a percentage
abbrev pub form_over : ℕ → QuantityForm
form_over divisor = if divisor == 100 then Percent else Fraction

-- the answer to a fraction with this divisor and this numerator; `place` is the number of
-- characters before the numerator
abbrev pub fraction_answer : ChineseCountMethod → List ℕ → ℕ → List ℕ → Result Ratio Refusal
fraction_answer method before place after =
    and_then (divisor_answer method before) (λ divisor.
    and_then (further_by place (part_answer method after))
    (λ decimal. ratio_of divisor (form_over divisor) decimal))

-- the text begins with a minus sign, and something follows it
abbrev pub begins_with_minus : List ℕ → Bool
begins_with_minus (c ∷ next ∷ rest) = is_minus (sign_of c)
begins_with_minus text = false

-- the text is a fraction with a minus sign directly after 分之, such as 百分之负五
abbrev pub is_negated : List ℕ → Bool
is_negated text = is_fraction text && begins_with_minus (after_bar text)

-- the answer to it without that sign
abbrev pub negated_answer : ChineseCountMethod → List ℕ → Result Ratio Refusal
negated_answer method text =
    fraction_answer method (before_bar text) (length (before_bar text) + 3)
    (drop 1 (after_bar text))

-- the number by which the last character divides, if it is a percent sign or ‰
abbrev pub last_share : List ℕ → Option ℕ
last_share [] = None
last_share (c ∷ []) = share_of c
last_share (c ∷ next ∷ rest) = last_share (next ∷ rest)

-- the number by which a percent sign or ‰ at the end divides, if something is before it
abbrev pub share : List ℕ → Option ℕ
share text = if nat_lt 1 (length text) then last_share text else None

-- the answer to a percentage or a per mille: the number before its sign, over the number by which
-- the sign divides
abbrev pub share_answer : ChineseCountMethod → ℕ → List ℕ → Result Ratio Refusal
share_answer method divisor text =
    and_then (number_answer method (take (length text - 1) text))
    (λ decimal. ratio_of divisor (form_over divisor) decimal)

-- the text before the first 又, and the text after it
abbrev pub before_you : List ℕ → List ℕ
before_you [] = []
before_you (c ∷ rest) = if is_you c then [] else c ∷ before_you rest

abbrev pub after_you : List ℕ → List ℕ
after_you [] = []
after_you (c ∷ rest) = if is_you c then rest else after_you rest

-- a whole number plus a fraction whose numerator is a whole number below its denominator, if the
-- numerator of the sum fits 128 bits
abbrev pub mixed_ratio : ℕ → ℕ → DecimalNumber → Option Ratio
mixed_ratio whole divisor decimal =
    let numerator = whole * divisor + decimal.number in
    if decimal.decimals == 0 && nat_lt decimal.number divisor && nat_lt numerator (2 ^ 128)
    then Some (record { numerator = numerator; denominator = divisor; form = Fraction }) else None

abbrev pub mixed_of : Result ℕ Refusal → Result ℕ Refusal → Result DecimalNumber Refusal
    → Option Ratio
mixed_of (Ok whole) (Ok divisor) (Ok decimal) = mixed_ratio whole divisor decimal
mixed_of whole divisor decimal = None

-- the ratio of a text that is a mixed fraction, with a whole number before 又: 13/5 for 二又五分之三
abbrev pub mixed : ChineseCountMethod → List ℕ → Option Ratio
mixed method text =
    if nat_lt 0 (length (before_you text)) && is_fraction (after_you text)
    then mixed_of (whole_answer method (before_you text))
    (divisor_answer method (before_bar (after_you text)))
    (part_answer method (after_bar (after_you text))) else None

-- the answer to a text without sign that is not a mixed fraction
abbrev pub simple_answer : ChineseCountMethod → List ℕ → Result Ratio Refusal
simple_answer method text =
    if is_fraction text
    then fraction_answer method (before_bar text) (length (before_bar text) + 2) (after_bar text)
    else option_map_or (λ divisor. share_answer method divisor text) (share text)
    (and_then (number_answer method text)
    (λ decimal. ratio_of 1 (form_of decimal.decimals) decimal))

-- the answer to a text without sign
abbrev pub ratio_answer : ChineseCountMethod → List ℕ → Result Ratio Refusal
ratio_answer method text =
    option_map_or (λ ratio. Ok ratio) (mixed method text) (simple_answer method text)
