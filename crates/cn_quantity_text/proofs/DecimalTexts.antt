-- A written number, with decimals or without, is read as that number.
use Rattle.std.proofs.Common.{◌≡◌, ℕ, zero, suc, ◌/◌, ◌^◌, ◌<◌, Bool, true, false, ◌&&◌, nat_lt, is_none, is_some, List, [], ◌∷◌, ◌++◌, length, map, Some, None, Ok, refl, ap, ap₂, ◌∙◌, arith, if◌then◌else◌, append-nil}
use Rattle.std.specs.Char.{is_ascii_digit}
use Rattle.std.specs.List.{list_all}
use Rattle.std.proofs.lemmas.Bool.Decides.{nat_tests}
use Rattle.std.proofs.Math.Nat.{div-le_self}
use Rattle.cn_core.specs.declared.case.ChineseCase.{ChineseCase}
use Rattle.cn_core.specs.declared.method.ChineseCountMethod.{ChineseCountMethod}
use Rattle.cn_core.specs.declared.script.ChineseVariant.{ChineseVariant}
use Rattle.cn_core.specs.declared.script.ChineseVariant.TheVariants.{Traditional, Simple}
use Rattle.cn_core.specs.Characters.{digit_of, rank_of, digit_char}
use Rattle.cn_core.specs.Mark.{Mark, mark_of}
use Rattle.cn_core.specs.Numeral.{is_digit_or_unit, starts_with_digit, with_first_digit}
use Rattle.cn_core.specs.Printing.{mark_char}
use Rattle.cn_core.specs.Spelling.{spelling}
use Rattle.cn_core.proofs.Fronts.{and-left, and-right, both}
use Rattle.cn_core.proofs.ReadBack.{spelling-is_numeral}
use Rattle.cn_quantity_text.specs.Digits.{behind_point, last_digits}
use Rattle.cn_quantity_text.specs.Numerals.{decimal_text, magnitude_text, point_char}
use Rattle.cn_quantity_text.proofs.BareTexts.{bare-text, is_bare, mark-bare, marks-bare}
use Rattle.cn_quantity_text.proofs.ClearTexts.{magnitude-clear}
use Rattle.cn_quantity_text.proofs.Cuts.{marks-lack, point-at}
use Rattle.cn_quantity_text.proofs.DigitTexts.{WritesDigits, WritesDigits-each, are_digits, digits-alone, digits-all, last-count, last-digits, last-read, no-factors}
use Rattle.cn_quantity_text.proofs.LastMarks.{spelled-ended}
use Rattle.cn_quantity_text.proofs.SpelledNumbers.{BeginsNumber, BeginsNumber-marks, digits_written, mark_read, printed-known, spelled-whole}
use Rattle.cn_quantity_text.proofs.WrittenTexts.{IsText}
use Rattle.cn_quantity.specs.declared.characters.DigitKind.TheVariants.{Chinese, Figure}
use Rattle.cn_quantity.specs.Answer.{and_then}
use Rattle.cn_quantity.specs.Characters.{chinese_digit_of, is_fen, is_point, share_of}
use Rattle.cn_quantity.specs.Decimal.{after_point, before_point, ends_colloquially, is_chinese_decimal}
use Rattle.cn_quantity.specs.Digits.{after_digits, leading_digits, read_with_units}
use Rattle.cn_quantity.specs.Figures.{after_whole, ends_in_figures, is_in_figures}
use Rattle.cn_quantity.specs.Number.{decimal_of, number_answer, part_answer}
use Rattle.cn_quantity.specs.Units.{are_rising_units, times_units}
use Rattle.cn_quantity.specs.WholeNumber.{whole_answer}
use Rattle.cn_quantity.proofs.FigureGroups.{groups-none}
use Rattle.cn_quantity.proofs.Groups.{turns-begin}
use Rattle.cn_quantity.proofs.Numbers.{a-decimal}
use Rattle.cn_quantity.proofs.NumeralsAreQuantities.{and-none, are_marks, digit-mark, digit-no_unit, marks-broken, no-point, number-shaped, number-whole, point-no_mark}
use Rattle.cn_spell.proofs.Printed.{IsReadBack-marks, is_printed}
use Rattle.cn_spell.proofs.ReadByOther.{IsReadBy}
use Rattle.cn_spell.proofs.SpelledMarks.{spelling-printed}

-- the properties of a written spelling for a method that reads it
pub record IsSpelled (method : ChineseCountMethod) (number : ℕ) (text : List ℕ) : Type 0 where
  pub written : IsText text
  pub marks : are_marks text ≡ true
  pub whole : whole_answer method text ≡ Ok number
  pub begins : BeginsNumber text
  pub ended : ends_colloquially text ≡ false

pub printed-marks : (variant : ChineseVariant) (case : ChineseCase) (marks : List Mark)
    → list_all is_printed marks ≡ true → are_marks (map (mark_char variant case) marks) ≡ true
printed-marks variant case [] h = refl
printed-marks variant case (mark ∷ rest) h =
    let one = and-left (is_printed mark) (list_all is_printed rest) h in
    both (is_digit_or_unit (mark_of (mark_char variant case mark))) _
    (ap is_digit_or_unit (mark_read variant case mark one) ∙ printed-known mark one)
    (printed-marks variant case rest (and-right (is_printed mark) (list_all is_printed rest) h))

pub IsSpelled-magnitude : (variant : ChineseVariant) (case : ChineseCase)
    (write read : ChineseCountMethod) (number : ℕ) → number < 2 ^ 128
    → IsReadBy write read number
    → IsSpelled read number (magnitude_text variant case write number)
IsSpelled-magnitude variant case write read number small is =
    let marks = spelling write number in
    let printed = spelling-printed write number is.square in
    let back = IsReadBack-marks variant case marks printed in
    let numeral = spelling-is_numeral write number is.square in
    let known = printed-marks variant case marks printed in
    record {
      written = bare-text (map (mark_char variant case) marks)
          (marks-bare (map (mark_char variant case) marks) known);
      marks = known;
      whole = spelled-whole write read number (map (mark_char variant case) marks) small is
          back.marks_same (magnitude-clear variant case write number is.square);
      begins = BeginsNumber-marks variant case marks printed
          (and-left (starts_with_digit (with_first_digit marks)) _ numeral.0);
      ended = spelled-ended write number (map (mark_char variant case) marks) is.square
          back.marks_same;
    }

-- a text that begins like this is not a number in figures, and not a unit that multiplies on its
-- own
pub not-figures : (text more : List ℕ) → BeginsNumber text
    → leading_digits Figure (text ++ more) ≡ 0
not-figures text more begins =
    ap (λ l. leading_digits Figure (l ++ more)) begins.parts
    ∙ ap (λ d. if is_some d then suc (leading_digits Figure (begins.rest ++ more)) else 0)
    begins.no_figure

pub part-number : (method : ChineseCountMethod) (text more : List ℕ) → BeginsNumber text
    → part_answer method (text ++ more) ≡ number_answer method (text ++ more)
part-number method text more begins = rw none where
  none : (nat_lt 0 (length (text ++ more)) && are_rising_units (text ++ more)) ≡ false
  none =
      ap (λ b. nat_lt 0 (length (text ++ more)) && b)
      (ap (λ l. are_rising_units (l ++ more)) begins.parts
      ∙ begins.no_factor (begins.rest ++ more))
      ∙ and-none (nat_lt 0 (length (text ++ more)))

-- a whole number
pub whole-read : (method : ChineseCountMethod) (number : ℕ) (text : List ℕ)
    → IsSpelled method number text
    → number_answer method text ≡ Ok (record { number = number; decimals = 0 })
whole-read method number text s = number-whole method text number s.whole

-- the same as part of a fraction
pub part-whole : (method : ChineseCountMethod) (number : ℕ) (text : List ℕ)
    → IsSpelled method number text
    → part_answer method text ≡ Ok (record { number = number; decimals = 0 })
part-whole method number text s =
    rw append-nil at (part-number method text [] s.begins) ∙ whole-read method number text s

-- the digits after a point
pub WritesDigits-chinese : (variant : ChineseVariant) (case : ChineseCase)
    → WritesDigits Chinese (digit_char variant case)
WritesDigits-chinese variant case =
    WritesDigits-each Chinese (digit_char variant case) (digits_written variant case)

-- the point of each script
pub point_is : (variant : ChineseVariant) → is_point Chinese (point_char variant) ≡ true
unfolding is_point
point_is Traditional = refl
point_is Simple = refl

pub point_bare : (variant : ChineseVariant) → is_bare (point_char variant) ≡ true
unfolding is_bare is_fen share_of
point_bare Traditional = refl
point_bare Simple = refl

-- digits after a point contain no unit
chinese-digit : (c value : ℕ) → chinese_digit_of c ≡ Some value → digit_of c ≡ Some value
unfolding chinese_digit_of
chinese-digit c value h = by (is_ascii_digit c) h where
  by : (b : Bool) → (if b then None else digit_of c) ≡ Some value → digit_of c ≡ Some value
  by true h = cc
  by false h = h

chinese-no_unit : (c value : ℕ) → chinese_digit_of c ≡ Some value → is_none (rank_of c) ≡ true
chinese-no_unit c value is = ap is_none (digit-no_unit c value (chinese-digit c value is))

pub chinese-bare : (c value : ℕ) → chinese_digit_of c ≡ Some value → is_bare c ≡ true
chinese-bare c value is =
    mark-bare c (ap is_digit_or_unit (digit-mark c value (chinese-digit c value is)))

-- the value that decimals are read as
pub decimals-read : (method : ChineseCountMethod) (variant : ChineseVariant) (case : ChineseCase)
    (count number : ℕ) → number < 2 ^ 128
    → read_with_units method Chinese (number / 10 ^ count)
    (map (digit_char variant case) (last_digits count number)) ≡ Some number
decimals-read method variant case count number small =
    let writes = WritesDigits-chinese variant case in
    let text = map (digit_char variant case) (last_digits count number) in
    ap (λ n. times_units method n text)
    (last-read Chinese (digit_char variant case) count number writes)
    ∙ no-factors method number text
    (digits-all Chinese (λ c. is_none (rank_of c)) chinese-no_unit text
    (last-digits Chinese (digit_char variant case) count number writes))
    small

not-in-figures : (text more : List ℕ) → BeginsNumber text
    → is_in_figures (text ++ more) ≡ false
not-in-figures text more begins =
    ap (λ b. b && ends_in_figures (after_whole (text ++ more)))
    (groups-none (text ++ more) (not-figures text more begins))

-- a number with decimals
point-read : (method : ChineseCountMethod) (whole count number point : ℕ) (front digits : List ℕ)
    → IsSpelled method whole front → is_point Chinese point ≡ true
    → are_digits Chinese digits ≡ true → length digits ≡ count → 0 < count
    → read_with_units method Chinese whole digits ≡ Some number
    → number_answer method (front ++ point ∷ digits)
    ≡ Ok (record { number = number; decimals = count })
point-read method whole count number point front digits s point_is all size some read =
    number-shaped method text (marks-broken front point digits (point-no_mark point point_is))
    ∙ a-decimal method text (not-in-figures front (point ∷ digits) s.begins)
    (turns-begin method text (not-figures front (point ∷ digits) s.begins)) is_decimal
    ∙ ap₂ (λ before behind. and_then (whole_answer method before)
    (λ whole. decimal_of (leading_digits Chinese behind)
    (read_with_units method Chinese whole behind))) cut.0 cut.1
    ∙ ap (λ a. and_then a (λ whole. decimal_of (leading_digits Chinese digits)
    (read_with_units method Chinese whole digits))) s.whole
    ∙ ap₂ (λ decimals read. decimal_of decimals read) (alone.0 ∙ size) read where
      text : List ℕ
      text = front ++ point ∷ digits

      cut : (before_point (front ++ point ∷ digits) ≡ front)
          × (after_point (front ++ point ∷ digits) ≡ digits)
      cut = point-at front point digits
          (marks-lack (is_point Chinese) no-point front s.marks) point_is

      alone : (leading_digits Chinese digits ≡ length digits) × (after_digits Chinese digits ≡ [])
      alone = digits-alone Chinese digits all

      filled : nat_lt 0 (length front) ≡ true
      filled = ap (λ l. nat_lt 0 (length l)) s.begins.parts ∙ grind (arith, nat_tests)

      decimals : nat_lt 0 (leading_digits Chinese digits) ≡ true
      decimals =
          let count_is = alone.0 ∙ size in
          rw count_is (grind (arith, nat_tests, some))

      is_decimal : is_chinese_decimal (front ++ point ∷ digits) ≡ true
      is_decimal = rw (cut.0, cut.1, alone.1, filled, s.ended, decimals)

behind-text : (method : ChineseCountMethod) (variant : ChineseVariant) (case : ChineseCase)
    (count number : ℕ) (front : List ℕ) → IsSpelled method (number / 10 ^ count) front
    → number < 2 ^ 128
    → number_answer method
    (front ++ behind_point (point_char variant) (digit_char variant case) count number)
    ≡ Ok (record { number = number; decimals = count })
behind-text method variant case zero number front s small =
    let whole : number / 10 ^ 0 ≡ number = omega arith in
    ap (number_answer method) (append-nil front) ∙ whole-read method (number / 10 ^ 0) front s
    ∙ ap (λ n. Ok (record { number = n; decimals = 0 })) whole
behind-text method variant case (suc count) number front s small =
    point-read method (number / 10 ^ suc count) (suc count) number (point_char variant) front
    (map (digit_char variant case) (last_digits (suc count) number)) s (point_is variant)
    (last-digits Chinese (digit_char variant case) (suc count) number
    (WritesDigits-chinese variant case))
    (last-count (digit_char variant case) (suc count) number) (omega arith)
    (decimals-read method variant case (suc count) number small)

pub decimal-read : (write read : ChineseCountMethod) (variant : ChineseVariant)
    (case : ChineseCase) (count number : ℕ) → number < 2 ^ 128
    → IsReadBy write read (number / 10 ^ count)
    → number_answer read (decimal_text variant case write count number)
    ≡ Ok (record { number = number; decimals = count })
decimal-read write read variant case count number small is =
    behind-text read variant case count number
    (magnitude_text variant case write (number / 10 ^ count))
    (IsSpelled-magnitude variant case write read (number / 10 ^ count)
    (omega (arith, small, div-le_self number (10 ^ count))) is) small
