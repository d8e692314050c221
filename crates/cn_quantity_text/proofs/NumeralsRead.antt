-- A quantity in numerals is read as that quantity.
use Rattle.std.proofs.Common.{◌≡◌, ℕ, ◌*◌, ◌/◌, ◌^◌, ◌<◌, pos, int_lt, nat_abs, nat_lt, Bool, true, List, [], ◌∷◌, ◌++◌, length, map, encode_utf8_all, Option, Some, None, Ok, refl, ap, subst, ◌∙◌, arith, length-append}
use Rattle.std.specs.List.{list_all}
use Rattle.std.specs.Option.{option_map_or}
use Rattle.std.proofs.Math.Nat.{div-le_self}
use Rattle.std.proofs.lemmas.Bool.Decides.{nat_tests}
use Rattle.cn_core.specs.declared.case.ChineseCase.{ChineseCase}
use Rattle.cn_core.specs.declared.case.ChineseCase.TheVariants.{Upper, Lower}
use Rattle.cn_core.specs.declared.method.ChineseCountMethod.{ChineseCountMethod}
use Rattle.cn_core.specs.declared.method.ChineseCountMethod.TheVariants.{Low, TenThousand, Middle, High}
use Rattle.cn_core.specs.declared.script.ChineseVariant.{ChineseVariant}
use Rattle.cn_core.specs.declared.script.ChineseVariant.TheVariants.{Traditional, Simple}
use Rattle.cn_core.specs.declared.sign.Sign.TheVariants.{Minus}
use Rattle.cn_core.specs.Characters.{digit_char, minus_char, rank_of, unit_char, sign_of as numeral_sign}
use Rattle.cn_core.specs.Mark.{digit, unit}
use Rattle.cn_core.specs.Printing.{is_printable, mark_char}
use Rattle.cn_core.specs.Spelling.{spelling}
use Rattle.cn_core.specs.Whole.{holds, signed_kind}
use Rattle.cn_core.proofs.Fronts.{and-left, and-right, both}
use Rattle.cn_quantity_text.specs.Digits.{behind_point}
use Rattle.cn_quantity_text.specs.Numerals.{bar, decimal_text, divisor_text, fraction_text, greatest, hundredths, is_written_by, magnitude_text, point_char, quantity_text, spelled_numbers, unsigned_text, without_front}
use Rattle.cn_quantity_text.specs.ReadBack.{form_read_back}
use Rattle.cn_quantity_text.proofs.BareTexts.{bare-append, bare-no_fen, bare-text, behind-bare, marks-bare}
use Rattle.cn_quantity_text.proofs.DecimalTexts.{IsSpelled-magnitude, WritesDigits-chinese, chinese-bare, decimal-read, part-number, part-whole, point_bare}
use Rattle.cn_quantity_text.proofs.FractionTexts.{IsDivisorText, IsDivisorText-written, divisor-answered}
use Rattle.cn_quantity_text.proofs.NumberTexts.{IsNumberText, IsUnsigned-decimal, IsUnsigned-whole}
use Rattle.cn_quantity_text.proofs.Ratios.{fraction-ratio, ratio-fits, unsigned-over}
use Rattle.cn_quantity_text.proofs.SignedTexts.{IsUnsigned, magnitude-fits, sign-text, signed-read}
use Rattle.cn_quantity_text.proofs.WrittenTexts.{IsText, IsText-append, not-mixed}
use Rattle.cn_quantity.specs.declared.characters.DigitKind.TheVariants.{Chinese}
use Rattle.cn_quantity.specs.declared.quantity.Quantity.{Quantity}
use Rattle.cn_quantity.specs.declared.quantity.QuantityForm.{QuantityForm}
use Rattle.cn_quantity.specs.declared.quantity.QuantityForm.TheVariants.{Whole, Decimal, Percent, Fraction}
use Rattle.cn_quantity.specs.Characters.{sign_of}
use Rattle.cn_quantity.specs.Number.{part_answer}
use Rattle.cn_quantity.specs.Ratio.{form_over}
use Rattle.cn_quantity.specs.Reading.{leading_sign, quantity_answer}
use Rattle.cn_quantity.specs.Trimmed.{decimals_in, decimals_of}
use Rattle.cn_quantity.proofs.KnownDecimals.{over-is}
use Rattle.cn_spell.proofs.ReadByOther.{IsReadBy, IsReadBy-middle, IsReadBy-own}
use Rattle.cn_spell.proofs.SpelledMarks.{below_square}

IsNumberText-decimal : (variant : ChineseVariant) (case : ChineseCase)
    (write read : ChineseCountMethod) (count number : ℕ) → number < 2 ^ 128
    → IsReadBy write read (number / 10 ^ count)
    → IsNumberText read (record { number = number; decimals = count })
    (decimal_text variant case write count number)
IsNumberText-decimal variant case write read count number small is =
    let front = magnitude_text variant case write (number / 10 ^ count) in
    let behind = behind_point (point_char variant) (digit_char variant case) count number in
    let s = IsSpelled-magnitude variant case write read (number / 10 ^ count)
    (omega (arith, small, div-le_self number (10 ^ count))) is in record {
      bare = bare-append front behind (marks-bare front s.marks)
          (behind-bare Chinese (point_char variant) (digit_char variant case) count number
          (point_bare variant) (WritesDigits-chinese variant case) chinese-bare);
      no_sign = ap (λ l. leading_sign (l ++ behind)) s.begins.parts ∙ s.begins.no_sign;
      read = decimal-read write read variant case count number small is;
    }

-- the same as part of a fraction
decimal-part : (variant : ChineseVariant) (case : ChineseCase) (write read : ChineseCountMethod)
    (count number : ℕ) → number < 2 ^ 128 → IsReadBy write read (number / 10 ^ count)
    → (0 < length (decimal_text variant case write count number))
    × (part_answer read (decimal_text variant case write count number)
    ≡ Ok (record { number = number; decimals = count }))
decimal-part variant case write read count number small is =
    let front = magnitude_text variant case write (number / 10 ^ count) in
    let behind = behind_point (point_char variant) (digit_char variant case) count number in
    let s = IsSpelled-magnitude variant case write read (number / 10 ^ count)
    (omega (arith, small, div-le_self number (10 ^ count))) is in
    let first = ap length s.begins.parts in (
      omega (arith, first, length-append front behind),
      part-number read front behind s.begins
          ∙ decimal-read write read variant case count number small is,
    )

-- a number over a divisor
IsText-bar : IsText bar
IsText-bar = record { scalars = refl; kept = refl; bare = refl }

IsUnsigned-fraction : (method : ChineseCountMethod)
    (divisor number decimals denominator : ℕ) (before after : List ℕ)
    → IsDivisorText method divisor before
    → IsText after → leading_sign after ≡ None → 0 < length after
    → part_answer method after ≡ Ok (record { number = number; decimals = decimals })
    → 0 < divisor → divisor * 10 ^ decimals ≡ denominator → denominator < 2 ^ 128
    → IsUnsigned method
    (record { numerator = number; denominator = denominator; form = form_over divisor })
    (before ++ (bar ++ after))
IsUnsigned-fraction method divisor number decimals denominator before after d written sign some part
    above is small = record {
      written = text_is;
      no_sign = d.no_sign (bar ++ after);
      no_minus = unsigned-over before after (bare-no_fen before (marks-bare before d.marks)) sign;
      read = fraction-ratio method divisor (record { number = number; decimals = decimals })
          before after (not-mixed method (before ++ (bar ++ after)) text_is) (bare-no_fen before (marks-bare before d.marks)) d.some some
          (divisor-answered method divisor before above d.read) part
          ∙ ratio-fits divisor number decimals denominator (form_over divisor) is small;
    } where
      text_is : IsText (before ++ (bar ++ after))
      text_is = IsText-append before (bar ++ after) (bare-text before (marks-bare before d.marks))
          (IsText-append bar after IsText-bar written)

-- 百
hundred-marks : (method : ChineseCountMethod) → spelling method 100 ≡ digit 1 ∷ unit 2 ∷ []
hundred-marks Low = refl
hundred-marks TenThousand = refl
hundred-marks Middle = refl
hundred-marks High = refl

hundred-alone : (variant : ChineseVariant) (case : ChineseCase)
    → without_front (digit_char variant case 1) (map (mark_char variant case)
    (digit 1 ∷ unit 2 ∷ [])) ≡ unit_char variant case 2 ∷ []
unfolding digit_char unit_char rank_of
hundred-alone Traditional Upper = refl
hundred-alone Traditional Lower = refl
hundred-alone Simple Upper = refl
hundred-alone Simple Lower = refl

hundred-read : (method : ChineseCountMethod) → IsReadBy method method 100
hundred-read Low = IsReadBy-own Low 100 (omega arith) (omega arith)
hundred-read TenThousand = IsReadBy-own TenThousand 100 (omega arith) (omega arith)
hundred-read Middle = IsReadBy-own Middle 100 (omega arith) (omega arith)
hundred-read High =
    IsReadBy-own High 100 (omega arith) (below_square High (pos 100) (omega arith) refl)

IsDivisorText-hundred : (variant : ChineseVariant) (case : ChineseCase)
    (method : ChineseCountMethod) → IsDivisorText method 100 (unit_char variant case 2 ∷ [])
IsDivisorText-hundred variant case method =
    subst (IsDivisorText method 100) (ap (λ marks. without_front (digit_char variant case 1)
    (map (mark_char variant case) marks)) (hundred-marks method) ∙ hundred-alone variant case)
    (IsDivisorText-written variant case method method 100 (omega arith) (hundred-read method))

-- the minus sign
minus-sign : (variant : ChineseVariant) → sign_of (minus_char variant) ≡ Some Minus
unfolding minus_char sign_of numeral_sign
minus-sign Traditional = refl
minus-sign Simple = refl

IsText-minus : (variant : ChineseVariant) → IsText (minus_char variant ∷ [])
unfolding minus_char
IsText-minus Traditional = record { scalars = refl; kept = refl; bare = refl }
IsText-minus Simple = record { scalars = refl; kept = refl; bare = refl }

-- each number that passes the test is spelled by one method so that the other reads it
abbrev PassesAsRead : (ℕ → Bool) → ChineseCountMethod → ChineseCountMethod → Type 0
PassesAsRead test write read =
    (number : ℕ) → number < 2 ^ 128 → test number ≡ true → IsReadBy write read number

-- a quantity without its sign
numerals-by : (variant : ChineseVariant) (case : ChineseCase) (write read : ChineseCountMethod)
    (test : ℕ → Bool) → PassesAsRead test write read
    → (form : QuantityForm) (number denominator : ℕ) (decimals : Option ℕ)
    → decimals_in form denominator ≡ decimals → number < 2 ^ 128 → 0 < denominator
    → denominator < 2 ^ 128
    → list_all test
    (option_map_or (λ decimals. number / 10 ^ decimals ∷ []) decimals
    (denominator ∷ number ∷ [])) ≡ true
    → IsUnsigned read
    (record {
      numerator = number;
      denominator = denominator;
      form = option_map_or (λ decimals. form) decimals (form_over denominator);
    })
    (option_map_or (λ decimals. hundredths variant case form
    ++ decimal_text variant case write decimals number) decimals
    (fraction_text variant case write denominator number))
numerals-by variant case write read test passes form number denominator None is small above fits
    tested =
    let s = IsSpelled-magnitude variant case write read number small
    (passes number small (and-left (test number) true
    (and-right (test denominator) _ tested))) in
    let filled : 0 < length (magnitude_text variant case write number) =
    (let first = ap length s.begins.parts in omega (arith, first)) in
    IsUnsigned-fraction read denominator number 0 denominator
    (divisor_text variant case write denominator) (magnitude_text variant case write number)
    (IsDivisorText-written variant case write read denominator fits
    (passes denominator fits (and-left (test denominator) _ tested)))
    s.written (ap leading_sign s.begins.parts ∙ s.begins.no_sign) filled
    (part-whole read number (magnitude_text variant case write number) s)
    above (omega arith) fits
numerals-by variant case write read test passes form number denominator (Some decimals) is small
    above fits tested = by form is where
      spelled : IsReadBy write read (number / 10 ^ decimals)
      spelled = passes (number / 10 ^ decimals)
          (omega (arith, small, div-le_self number (10 ^ decimals)))
          (and-left (test (number / 10 ^ decimals)) true tested)

      n : IsNumberText read (record { number = number; decimals = decimals })
          (decimal_text variant case write decimals number)
      n = IsNumberText-decimal variant case write read decimals number small spelled

      by : (form : QuantityForm) → decimals_in form denominator ≡ Some decimals
          → IsUnsigned read
          (record {
            numerator = number;
            denominator = denominator;
            form = form;
          })
          (hundredths variant case form ++ decimal_text variant case write decimals number)
      by Whole is =
          IsUnsigned-whole read number decimals denominator
          (decimal_text variant case write decimals number) n is fits
      by Decimal is =
          IsUnsigned-decimal read number decimals denominator
          (decimal_text variant case write decimals number) n is fits
      by Percent is =
          let part = decimal-part variant case write read decimals number small spelled in
          IsUnsigned-fraction read 100 number decimals denominator
          (unit_char variant case 2 ∷ []) (decimal_text variant case write decimals number)
          (IsDivisorText-hundred variant case read)
          (bare-text (decimal_text variant case write decimals number) n.bare) n.no_sign
          part.0 part.1
          (omega arith) (over-is 100 denominator decimals is) fits
      by Fraction is = cc

-- a quantity whose numbers pass the test
module _ (variant : ChineseVariant) (case : ChineseCase) (write read : ChineseCountMethod)
    (test : ℕ → Bool) (passes : PassesAsRead test write read) (q : Quantity)
    (held : holds (signed_kind 128) q.numerator ≡ true) (above : 0 < q.denominator)
    (fits : q.denominator < 2 ^ 128) (tested : list_all test (spelled_numbers q) ≡ true) where
  unsigned-is : IsUnsigned read
      (record {
        numerator = nat_abs q.numerator;
        denominator = q.denominator;
        form = form_read_back q;
      })
      (unsigned_text variant case write q)
  unsigned-is =
      numerals-by variant case write read test passes q.form (nat_abs q.numerator) q.denominator
      (decimals_of q) refl (magnitude-fits q.numerator held) above fits tested

  -- a quantity with its sign
  tested-text : IsText (quantity_text variant case write q)
  tested-text =
      sign-text (int_lt q.numerator (pos 0)) (minus_char variant)
      (unsigned_text variant case write q) (IsText-minus variant) unsigned-is.written

  tested-read : quantity_answer read (encode_utf8_all (quantity_text variant case write q))
      ≡ Ok (record {
        numerator = q.numerator;
        denominator = q.denominator;
        form = form_read_back q;
      })
  tested-read =
      signed-read read q.numerator q.denominator (form_read_back q) (minus_char variant)
      (unsigned_text variant case write q) held (minus-sign variant) (IsText-minus variant)
      unsigned-is

-- written and read with one method
own-passes : (method : ChineseCountMethod)
    → PassesAsRead (λ number. is_printable method (pos number)) method method
own-passes method number small printable =
    IsReadBy-own method number small (below_square method (pos number) small printable)

pub numerals-text : (variant : ChineseVariant) (case : ChineseCase) (method : ChineseCountMethod)
    (q : Quantity) → holds (signed_kind 128) q.numerator ≡ true → 0 < q.denominator
    → q.denominator < 2 ^ 128 → is_written_by method q ≡ true
    → IsText (quantity_text variant case method q)
numerals-text variant case method q held above fits written =
    tested-text variant case method method (λ number. is_printable method (pos number))
    (own-passes method) q held above fits written

pub numerals-read : (variant : ChineseVariant) (case : ChineseCase) (method : ChineseCountMethod)
    (q : Quantity) → holds (signed_kind 128) q.numerator ≡ true → 0 < q.denominator
    → q.denominator < 2 ^ 128 → is_written_by method q ≡ true
    → quantity_answer method (encode_utf8_all (quantity_text variant case method q))
    ≡ Ok (record {
      numerator = q.numerator;
      denominator = q.denominator;
      form = form_read_back q;
    })
numerals-read variant case method q held above fits written =
    tested-read variant case method method (λ number. is_printable method (pos number))
    (own-passes method) q held above fits written

-- written with `Middle` and read with `TenThousand`, if each number is below 10^16
middle-passes : PassesAsRead (λ number. nat_lt number (10 ^ 16)) Middle TenThousand
middle-passes number small low = IsReadBy-middle number (grind (arith, nat_tests, low))

pub each-below : (bound : ℕ) (numbers : List ℕ) → greatest numbers < bound
    → list_all (λ number. nat_lt number bound) numbers ≡ true
each-below bound [] low = refl
each-below bound (number ∷ rest) low =
    both (nat_lt number bound) _ (grind (arith, nat_tests, low))
    (each-below bound rest (omega (arith, low)))

pub middle-read : (variant : ChineseVariant) (case : ChineseCase)
    (q : Quantity) → holds (signed_kind 128) q.numerator ≡ true → 0 < q.denominator
    → q.denominator < 2 ^ 128
    → list_all (λ number. nat_lt number (10 ^ 16)) (spelled_numbers q) ≡ true
    → quantity_answer TenThousand (encode_utf8_all (quantity_text variant case Middle q))
    ≡ Ok (record {
      numerator = q.numerator;
      denominator = q.denominator;
      form = form_read_back q;
    })
middle-read variant case q held above fits low =
    tested-read variant case Middle TenThousand (λ number. nat_lt number (10 ^ 16)) middle-passes q
    held above fits low
