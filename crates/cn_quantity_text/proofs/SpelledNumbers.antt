-- A written spelling is a number on its own.
use Rattle.std.proofs.Common.{◌≡◌, ℕ, ◌+◌, ◌*◌, ◌%◌, ◌^◌, ◌<◌, ◌≤◌, Bool, true, false, ◌&&◌, ◌||◌, ◌==◌, nat_le, nat_lt, is_none, List, [], ◌∷◌, ◌++◌, map, Option, Some, None, Ok, refl, sym, ap, ap₂, ◌∙◌, arith, if◌then◌else◌}
use Rattle.std.specs.Char.{is_ascii_digit}
use Rattle.std.specs.List.{list_all}
use Rattle.std.specs.Option.{option_map_or}
use Rattle.std.proofs.lemmas.Bool.Decides.{nat_tests}
use Rattle.std.proofs.Math.Decide.{dec_lt}
use Rattle.cn_core.specs.declared.case.ChineseCase.{ChineseCase}
use Rattle.cn_core.specs.declared.case.ChineseCase.TheVariants.{Upper, Lower}
use Rattle.cn_core.specs.declared.method.ChineseCountMethod.{ChineseCountMethod}
use Rattle.cn_core.specs.declared.script.ChineseVariant.{ChineseVariant}
use Rattle.cn_core.specs.declared.script.ChineseVariant.TheVariants.{Traditional, Simple}
use Rattle.cn_core.specs.Characters.{digit_of, digit_rows, rank_of, unit_rows, digit_char, unit_char}
use Rattle.cn_core.specs.Judging.{judge}
use Rattle.cn_core.specs.Mark.{Mark, digit, unit, other, mark_from, mark_of}
use Rattle.cn_core.specs.Naive.{naive_answer}
use Rattle.cn_core.specs.Numeral.{is_digit_or_unit, starts_with_digit, with_first_digit}
use Rattle.cn_core.specs.Printing.{mark_char}
use Rattle.cn_core.specs.Scale.{scale}
use Rattle.cn_core.specs.Spelling.{after_unit, short_spelling, spelling, spelling_within}
use Rattle.cn_core.specs.Text.{marks_of}
use Rattle.cn_core.proofs.Fronts.{and-left, both}
use Rattle.cn_core.proofs.Judging.{Judges-judge, Judges-same}
use Rattle.cn_core.proofs.Spellings.{short_spelling-by, spelled-by}
use Rattle.cn_core.proofs.Sums.{spelled-digit}
use Rattle.cn_core.specs.FigureCharacters.{figure_of}
use Rattle.cn_quantity_text.proofs.DigitTexts.{WritesDigits-each}
use Rattle.cn_quantity_text.proofs.LastMarks.{digit-as_mark, is_digit}
use Rattle.cn_judge.proofs.Walking.{rows_have}
use Rattle.cn_quantity.specs.declared.characters.DigitKind.TheVariants.{Chinese}
use Rattle.cn_quantity.specs.Characters.{chinese_digit_of, sign_of}
use Rattle.cn_quantity.specs.Misread.{first_misread}
use Rattle.cn_quantity.specs.Units.{are_rising}
use Rattle.cn_quantity.specs.WholeNumber.{is_plain, reader_answer, whole_answer}
use Rattle.cn_quantity.proofs.NumeralsAreQuantities.{digit-no_unit, mark-sign}
use Rattle.cn_quantity.proofs.WholeNumbers.{whole-reader}
use Rattle.cn_spell.proofs.Printed.{IsReadBack-marks, each_below, is_printed, no_sign, none_from_is_none}
use Rattle.cn_spell.proofs.ReadByOther.{IsReadBy, Judges-read}

-- a text of plain digits is a text whose marks are digits
plain-marks : (text : List ℕ) → is_plain text ≡ list_all is_digit (marks_of text)
plain-marks [] = refl
plain-marks (c ∷ rest) = ap₂ (λ a b. a && b) (digit-as_mark c) (plain-marks rest)

-- the spelling of a number from 10 up contains a unit
has-unit : (front back : List Mark) (rank : ℕ)
    → list_all is_digit (front ++ unit rank ∷ back) ≡ false
has-unit [] back rank = refl
has-unit (digit value ∷ front) back rank = has-unit front back rank
has-unit (unit other_rank ∷ front) back rank = refl
has-unit (other ∷ front) back rank = refl

spelling-unit : (method : ChineseCountMethod) (number : ℕ) → 10 ≤ number
    → number < scale method 15 * scale method 15
    → list_all is_digit (spelling method number) ≡ false
spelling-unit method number ten small =
    short_spelling-by (λ marks. list_all is_digit marks ≡ false)
    (spelling_within number method number)
    (spelled-by method (λ n marks. 10 ≤ n → list_all is_digit marks ≡ false)
    (λ n low h. absurd (omega (arith, low, h)))
    (λ n rank front back cut f b h. has-unit front
    (after_unit (n % scale method rank) (scale method rank) back) rank)
    number number (omega arith) small ten)
    (λ rest e. refl)

one-digit : (number : ℕ) → number < 10
    → naive_answer (digit number ∷ []) ≡ Ok number
one-digit number low =
    let test : nat_le (2 ^ 128) (0 * 10 + number) ≡ false = grind (arith, nat_tests, low) in
    let same : 0 * 10 + number ≡ number = omega arith in
    rw test (ap Ok same)

-- its judgement is its number
judged : (write read : ChineseCountMethod) (number : ℕ) → number < 2 ^ 128
    → IsReadBy write read number → judge read (spelling write number) ≡ Ok number
judged write read number small is =
    Judges-same read (spelling write number) (judge read (spelling write number))
    (Ok number) (Judges-judge read (spelling write number))
    (Judges-read write read number small is)

-- it is read as a whole number, with units or as one digit
spelled-read : (write read : ChineseCountMethod) (number : ℕ) (text : List ℕ)
    → number < 2 ^ 128 → IsReadBy write read number → marks_of text ≡ spelling write number
    → reader_answer read text ≡ Ok number
spelled-read write read number text small is same = by (dec_lt number 10) where
  units : judge read (marks_of text) ≡ Ok number
  units = ap (judge read) same ∙ judged write read number small is

  digits : number < 10 → naive_answer (marks_of text) ≡ Ok number
  digits low =
      ap naive_answer (same ∙ ap short_spelling (spelled-digit number write number low))
      ∙ one-digit number low

  either : (b : Bool) → naive_answer (marks_of text) ≡ Ok number
      → (if b then naive_answer (marks_of text) else judge read (marks_of text)) ≡ Ok number
  either true h = h
  either false h = units

  by : Dec (number < 10) → reader_answer read text ≡ Ok number
  by (yes low) = either (is_plain text) (digits low)
  by (no high) =
      let none : is_plain text ≡ false =
      plain-marks text ∙ ap (list_all is_digit) same
      ∙ spelling-unit write number (omega (arith, high)) is.square in
      ap (λ b. if b then naive_answer (marks_of text) else judge read (marks_of text)) none
      ∙ units

pub spelled-whole : (write read : ChineseCountMethod) (number : ℕ) (text : List ℕ)
    → number < 2 ^ 128 → IsReadBy write read number → marks_of text ≡ spelling write number
    → first_misread text ≡ None → whole_answer read text ≡ Ok number
spelled-whole write read number text small is same clear =
    whole-reader read text clear ∙ spelled-read write read number text small is same

-- each digit is written as a Chinese digit of its value
pub digits_written : (variant : ChineseVariant) (case : ChineseCase)
    → each_below (λ value. option_map_or (λ read. read == value)
    (chinese_digit_of (digit_char variant case value)) false) 10 ≡ true
unfolding digit_char chinese_digit_of digit_of
digits_written Traditional Upper = refl
digits_written Traditional Lower = refl
digits_written Simple Upper = refl
digits_written Simple Lower = refl

-- no such digit and no unit is a figure
digit-no_figure : (c value : ℕ) → chinese_digit_of c ≡ Some value → figure_of c ≡ None
unfolding chinese_digit_of digit_of figure_of
digit-no_figure c value is = by (is_ascii_digit c) refl is where
  by : (b : Bool) → is_ascii_digit c ≡ b → (if b then None else digit_of c) ≡ Some value
      → figure_of c ≡ None
  by true e is = cc
  by false e is =
      let known = rows_have (λ c. is_ascii_digit c || is_none (figure_of c)) digit_rows c value
      refl is in
      none_from_is_none (figure_of c) (ap (λ b. b || is_none (figure_of c)) (sym e) ∙ known)

unit-no_figure : (c rank : ℕ) → rank_of c ≡ Some rank → figure_of c ≡ None
unfolding rank_of figure_of
unit-no_figure c rank is =
    none_from_is_none (figure_of c)
    (rows_have (λ c. is_none (figure_of c)) unit_rows c rank refl is)

pub printed-known : (mark : Mark) → is_printed mark ≡ true → is_digit_or_unit mark ≡ true
printed-known (digit value) h = refl
printed-known (unit rank) h = refl
printed-known other h = cc

-- a written mark is read as that mark
pub mark_read : (variant : ChineseVariant) (case : ChineseCase) (mark : Mark)
    → is_printed mark ≡ true → mark_of (mark_char variant case mark) ≡ mark
mark_read variant case mark h =
    let back = IsReadBack-marks variant case (mark ∷ []) (both (is_printed mark) true h refl) in
    let same = back.marks_same in cc

-- the beginning of a written spelling: it is not a sign, not a figure, and not a unit that
-- multiplies
pub record BeginsNumber (text : List ℕ) : Type 0 where
  pub first : ℕ
  pub rest : List ℕ
  pub parts : text ≡ first ∷ rest
  pub no_sign : sign_of first ≡ None
  pub no_figure : figure_of first ≡ None
  pub no_factor : (more : List ℕ) → are_rising 1 (first ∷ more) ≡ false

digit-first : (c value : ℕ) → mark_of c ≡ digit value → rank_of c ≡ None
digit-first c value h = by (digit_of c) (rank_of c) refl refl h where
  by : (d r : Option ℕ) → digit_of c ≡ d → rank_of c ≡ r → mark_from d r ≡ digit value
      → rank_of c ≡ None
  by None None e f h = cc
  by None (Some rank) e f h = cc
  by (Some v) r e f h = digit-no_unit c v e

unit-first : (c rank : ℕ) → mark_of c ≡ unit rank → rank_of c ≡ Some rank
unit-first c rank h = by (digit_of c) (rank_of c) refl refl h where
  by : (d r : Option ℕ) → digit_of c ≡ d → rank_of c ≡ r → mark_from d r ≡ unit rank
      → rank_of c ≡ Some rank
  by None None e f h = cc
  by None (Some one) e f h = let same : one ≡ rank = cc in f ∙ ap Some same
  by (Some v) r e f h = cc

no-figure : (variant : ChineseVariant) (case : ChineseCase) (mark : Mark)
    → is_printed mark ≡ true → mark_of (mark_char variant case mark) ≡ mark
    → figure_of (mark_char variant case mark) ≡ None
no-figure variant case (digit value) printed same =
    digit-no_figure (digit_char variant case value) value
    (WritesDigits-each Chinese (digit_char variant case) (digits_written variant case) value
    (grind (arith, nat_tests, printed)))
no-figure variant case (unit rank) printed same =
    unit-no_figure (unit_char variant case rank) rank
    (unit-first (unit_char variant case rank) rank same)
no-figure variant case other printed same = cc

no-factor : (c : ℕ) (mark : Mark) (rest : List Mark) (more : List ℕ) → mark_of c ≡ mark
    → starts_with_digit (with_first_digit (mark ∷ rest)) ≡ true
    → are_rising 1 (c ∷ more) ≡ false
no-factor c (digit value) rest more is starts = rw (digit-first c value is)
no-factor c other rest more is starts = cc
no-factor c (unit rank) rest more is starts = by (rank == 1) refl starts where
  by : (b : Bool) → (rank == 1) ≡ b
      → starts_with_digit ((if b then digit 10 else unit rank) ∷ rest) ≡ true
      → are_rising 1 (c ∷ more) ≡ false
  by false e starts = cc
  by true e starts =
      let ten : rank ≡ 1 = grind (arith, nat_tests, e) in
      ap (λ r. option_map_or (λ rank. nat_lt 1 rank && are_rising rank more) r false)
      (unit-first c rank is ∙ ap Some ten)

pub BeginsNumber-marks : (variant : ChineseVariant) (case : ChineseCase) (marks : List Mark)
    → list_all is_printed marks ≡ true
    → starts_with_digit (with_first_digit marks) ≡ true
    → BeginsNumber (map (mark_char variant case) marks)
BeginsNumber-marks variant case [] printed starts = cc
BeginsNumber-marks variant case (mark ∷ rest) printed starts = record {
  first = c;
  rest = map (mark_char variant case) rest;
  parts = refl;
  no_sign = mark-sign c marked ∙ no_sign variant case mark rest one starts;
  no_figure = no-figure variant case mark one same;
  no_factor = λ more. no-factor c mark rest more same starts;
} where
  c : ℕ
  c = mark_char variant case mark

  one : is_printed mark ≡ true
  one = and-left (is_printed mark) (list_all is_printed rest) printed

  same : mark_of c ≡ mark
  same = mark_read variant case mark one

  marked : is_digit_or_unit (mark_of c) ≡ true
  marked = ap is_digit_or_unit same ∙ printed-known mark one
