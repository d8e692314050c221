-- A quantity in figures is read as that quantity.
use Rattle.std.proofs.Common.{◌≡◌, ℕ, zero, suc, ◌+◌, ◌*◌, ◌/◌, ◌%◌, ◌^◌, ◌<◌, ◌≤◌, pos, int_lt, nat_abs, Bool, true, false, ◌==◌, nat_lt, not, is_none, is_some, List, [], ◌∷◌, ◌++◌, length, map, codes, decimal, encode_utf8_all, slice_index, Some, None, Ok, refl, sym, ap, ap₂, ◌∙◌, arith, if◌then◌else◌, append-nil, length-append, filter_map, Option, Result, Err, fold}
use Rattle.std.specs.List.{cons_option, list_all}
use Rattle.std.specs.Option.{option_map_or}
use Rattle.std.proofs.lemmas.Bool.Decides.{nat_tests}
use Rattle.std.proofs.lemmas.Fmt.{IsAscii-decimal_wide, decimal_by_steps_wide}
use Rattle.std.proofs.lemmas.List.Folds.{list_all-append}
use Rattle.std.specs.Str.{IsAscii}
use Rattle.std.proofs.lemmas.Str.{IsAscii-append, encodes-IsAscii}
use Rattle.std.proofs.lemmas.Str.Ascii.{IsAscii-nil}
use Rattle.std.proofs.Math.Nat.{div-add-mod', div-le_self}
use Rattle.cn_core.specs.declared.method.ChineseCountMethod.{ChineseCountMethod}
use Rattle.cn_core.specs.declared.sign.Sign.TheVariants.{Minus}
use Rattle.cn_core.specs.Characters.{digit_of, rank_of, sign_of as numeral_sign}
use Rattle.cn_core.specs.Digits.{value_after}
use Rattle.cn_core.specs.Mark.{Mark, mark_of}
use Rattle.cn_core.specs.Naive.{decimal_value, digit_value, naive_answer, refused_or}
use Rattle.cn_core.specs.Numeral.{is_digit_or_unit}
use Rattle.cn_core.specs.Refusal.{Refusal}
use Rattle.cn_core.specs.Text.{marks_of}
use Rattle.cn_core.specs.Whole.{holds, signed_kind}
use Rattle.cn_core.proofs.Fronts.{and-left, and-right, both}
use Rattle.cn_core.specs.FigureCharacters.{figure_of, figure_rows, is_comma}
use Rattle.cn_quantity_text.specs.Digits.{behind_point, last_digits}
use Rattle.cn_quantity_text.specs.Figures.{figure_char, figures_of, figures_with, percent_sign, unsigned_figures}
use Rattle.cn_quantity_text.proofs.ClearTexts.{digits-not_misread}
use Rattle.cn_quantity_text.proofs.BareTexts.{bare-append, bare-no_fen, bare-text, behind-bare, is_bare}
use Rattle.cn_quantity_text.proofs.Cuts.{lacks, lacks-append}
use Rattle.cn_quantity_text.proofs.DigitTexts.{WritesDigits, WritesDigits-each, are_digits, digits-all, digits-alone, digits-lead, has_no_units, last-count, last-digits, last-read, no-factors, read-digit, read_on-append}
use Rattle.cn_quantity_text.proofs.NumberTexts.{IsNumberText, IsUnsigned-decimal, IsUnsigned-whole}
use Rattle.cn_quantity_text.proofs.Ratios.{no-negated, percent-ratio, ratio-fits}
use Rattle.cn_quantity_text.proofs.SignedTexts.{IsUnsigned, magnitude-fits, signed-read}
use Rattle.cn_quantity_text.proofs.WrittenTexts.{IsText, IsText-append, not-mixed}
use Rattle.cn_judge.proofs.Walking.{rows_have}
use Rattle.cn_quantity.specs.declared.characters.DigitKind.TheVariants.{Figure}
use Rattle.cn_quantity.specs.declared.quantity.Quantity.{Quantity}
use Rattle.cn_quantity.specs.declared.quantity.QuantityForm.{QuantityForm}
use Rattle.cn_quantity.specs.declared.quantity.QuantityForm.TheVariants.{Whole, Decimal, Percent, Fraction}
use Rattle.cn_quantity.specs.Characters.{is_fen, is_point, share_of, sign_of}
use Rattle.cn_quantity.specs.Digits.{after_digits, begins_with_digit, is_digit, leading_digits, read_on, read_with_units}
use Rattle.cn_quantity.specs.Figures.{after_whole, are_groups, decimals_of, ends_in_figures, groups_of, is_in_figures}
use Rattle.cn_quantity.specs.Number.{decimal_of, number_answer, or_shaped, shaped_number}
use Rattle.cn_quantity.specs.Reading.{leading_sign, quantity_answer}
use Rattle.cn_quantity.specs.Trimmed.{decimals_in, decimals_of as decimals_of_quantity}
use Rattle.cn_quantity.specs.Misread.{first_misread, is_digit as is_digit_mark, is_liang}
use Rattle.cn_quantity.specs.Units.{times_units}
use Rattle.cn_quantity.specs.WholeNumber.{is_plain, whole_answer}
use Rattle.cn_quantity.proofs.FigureGroups.{after-figures, go_on, groups-begin, more_groups}
use Rattle.cn_quantity.proofs.KnownDecimals.{over-is}
use Rattle.cn_quantity.proofs.Numbers.{in-figures}
use Rattle.cn_quantity.proofs.NumeralsAreQuantities.{digit-mark, marks-broken, whole-marks}
use Rattle.cn_quantity.proofs.WholeNumbers.{whole-reader}
use Rattle.cn_spell.proofs.Printed.{each_below, each_below-at, none_from_is_none}

-- a property of each figure
figure-has : (test : ℕ → Bool) → list_all (list_all test) figure_rows ≡ true → (c value : ℕ)
    → figure_of c ≡ Some value → test c ≡ true
unfolding figure_of
figure-has test all c value is = rows_have test figure_rows c value all is

figures-have : (test : ℕ → Bool) → list_all (list_all test) figure_rows ≡ true
    → (text : List ℕ) → are_digits Figure text ≡ true → list_all test text ≡ true
figures-have test all text figures = digits-all Figure test (figure-has test all) text figures

figure-bare : (c value : ℕ) → figure_of c ≡ Some value → is_bare c ≡ true
unfolding is_bare is_fen share_of
figure-bare c value is = figure-has is_bare refl c value is

figures-no_units : (text : List ℕ) → are_digits Figure text ≡ true → has_no_units text ≡ true
unfolding rank_of
figures-no_units text figures = figures-have (λ c. is_none (rank_of c)) refl text figures

figures-signless : (text : List ℕ) → are_digits Figure text ≡ true
    → list_all (λ c. is_none (sign_of c)) text ≡ true
unfolding sign_of numeral_sign
figures-signless text figures = figures-have (λ c. is_none (sign_of c)) refl text figures

figures-no_sign : (text more : List ℕ) → are_digits Figure text ≡ true → 0 < length text
    → leading_sign (text ++ more) ≡ None
figures-no_sign [] more figures some = absurd (omega (arith, some))
figures-no_sign (c ∷ rest) more figures some =
    none_from_is_none (sign_of c)
    (and-left (is_none (sign_of c)) _ (figures-signless (c ∷ rest) figures))

-- a figure that is also a digit of numerals with the same value; full-width figures are not
agree : Option ℕ → Option ℕ → Bool
agree (Some v) (Some w) = v == w
agree f d = false

unfoldable is_same : ℕ → Bool
is_same c = agree (figure_of c) (digit_of c)

record IsSame (c : ℕ) : Type 0 where
  value : ℕ
  figure : figure_of c ≡ Some value
  digit_is : digit_of c ≡ Some value

same-is : (c : ℕ) → is_same c ≡ true → IsSame c
unfolding is_same agree
same-is c h = by (figure_of c) (digit_of c) refl refl h where
  by : (f d : Option ℕ) → figure_of c ≡ f → digit_of c ≡ d → agree f d ≡ true → IsSame c
  by (Some v) (Some w) e g h =
      let same : v ≡ w = grind (arith, nat_tests, h) in
      record { value = w; figure = e ∙ ap Some same; digit_is = g }
  by None d e g h = cc
  by (Some v) None e g h = cc

same-plain : (text : List ℕ) → list_all is_same text ≡ true → is_plain text ≡ true
same-plain [] h = refl
same-plain (c ∷ rest) h =
    let s = same-is c (and-left (is_same c) (list_all is_same rest) h) in
    both (is_some (digit_of c)) (is_plain rest) (ap is_some s.digit_is)
    (same-plain rest (and-right (is_same c) (list_all is_same rest) h))

same-value : (number : ℕ) (text : List ℕ) → list_all is_same text ≡ true
    → read_on Figure number text
    ≡ fold (λ number mark. number * 10 + digit_value mark) number (marks_of text)
same-value number [] h = refl
same-value number (c ∷ rest) h =
    let s = same-is c (and-left (is_same c) (list_all is_same rest) h) in
    rw (s.figure, digit-mark c s.value s.digit_is)
    (same-value (number * 10 + s.value) rest (and-right (is_same c) (list_all is_same rest) h))

-- and none of these is misread
same-digits : (text : List ℕ) → list_all is_same text ≡ true
    → list_all is_digit_mark (marks_of text) ≡ true
same-digits [] h = refl
same-digits (c ∷ rest) h =
    let s = same-is c (and-left (is_same c) (list_all is_same rest) h) in
    both (is_digit_mark (mark_of c)) (list_all is_digit_mark (marks_of rest))
    (rw (digit-mark c s.value s.digit_is) refl)
    (same-digits rest (and-right (is_same c) (list_all is_same rest) h))

same-no_liang : (text : List ℕ) → list_all is_same text ≡ true
    → list_all (λ c. not (is_liang c)) text ≡ true
same-no_liang [] h = refl
same-no_liang (c ∷ rest) h =
    let s = same-is c (and-left (is_same c) (list_all is_same rest) h) in
    both (not (is_liang c)) (list_all (λ c. not (is_liang c)) rest)
    (figure-has (λ c. not (is_liang c)) refl c s.value s.figure)
    (same-no_liang rest (and-right (is_same c) (list_all is_same rest) h))

same-clear : (text : List ℕ) → list_all is_same text ≡ true → first_misread text ≡ None
same-clear text h = digits-not_misread text (same-digits text h) (same-no_liang text h)

-- both readings give the same whole number
figures-answered : (method : ChineseCountMethod) (text : List ℕ) (number : ℕ)
    → list_all is_same text ≡ true → whole_answer method text ≡ Ok number
    → number ≡ read_on Figure 0 text
figures-answered method text number figures h =
    by (marks_of text) (rw (same-plain text figures) at
    (sym (whole-reader method text (same-clear text figures)) ∙ h))
    ∙ sym (same-value 0 text figures)
  where
    told : (f : Option Refusal) (value : ℕ) → refused_or f value ≡ Ok number → number ≡ value
    told None value e = cc
    told (Some refusal) value e = cc

    by : (marks : List Mark) → naive_answer marks ≡ Ok number → number ≡ decimal_value marks
    by [] e = cc
    by (mark ∷ rest) e = told _ _ e

-- the digits that are written are figures
figures_written : each_below (λ value. option_map_or (λ read. read == value)
    (figure_of (figure_char value)) false) 10 ≡ true
unfolding figure_of
figures_written = refl

WritesDigits-figures : WritesDigits Figure figure_char
WritesDigits-figures = WritesDigits-each Figure figure_char figures_written

-- a number in decimal digits
record IsDecimal (number : ℕ) (text : List ℕ) : Type 0 where
  figures : are_digits Figure text ≡ true
  some : 0 < length text
  read : read_on Figure 0 text ≡ number
  same : list_all is_same text ≡ true

-- and they are such figures
same_written : each_below (λ value. is_same (figure_char value)) 10 ≡ true
unfolding is_same agree figure_of digit_of
same_written = refl

IsDecimal-one : (number : ℕ) → number < 10 → IsDecimal number (figure_char number ∷ [])
IsDecimal-one number low = record {
  figures = both (is_digit Figure (figure_char number)) true
      (ap is_some (WritesDigits-figures number low)) refl;
  some = omega arith;
  read = read-digit Figure figure_char 0 number [] WritesDigits-figures low ∙ omega arith;
  same = both (is_same (figure_char number)) true
      (each_below-at (λ value. is_same (figure_char value)) 10 number same_written low) refl;
}

IsDecimal-more : (number : ℕ) (text : List ℕ) → 10 ≤ number → IsDecimal (number / 10) text
    → IsDecimal number (text ++ figure_char (number % 10) ∷ [])
IsDecimal-more number text ten h =
    let low : number % 10 < 10 = omega arith in
    let last = IsDecimal-one (number % 10) low in
    record {
      figures = list_all-append (is_digit Figure) text (figure_char (number % 10) ∷ [])
          ∙ both (are_digits Figure text) _ h.figures last.figures;
      some = omega (arith, length-append text (figure_char (number % 10) ∷ []));
      read = read_on-append Figure 0 text (figure_char (number % 10) ∷ [])
          ∙ ap (λ n. read_on Figure n (figure_char (number % 10) ∷ [])) h.read
          ∙ read-digit Figure figure_char (number / 10) (number % 10) [] WritesDigits-figures low
          ∙ div-add-mod' number 10;
      same = list_all-append is_same text (figure_char (number % 10) ∷ [])
          ∙ both (list_all is_same text) _ h.same last.same;
    }

IsDecimal-written : (number : ℕ) → number < 2 ^ 128 → IsDecimal number (decimal number)
IsDecimal-written number small =
    decimal_by_steps_wide IsDecimal IsDecimal-one IsDecimal-more number (omega (arith, small))

-- the point and digits after the whole part
record IsBehind (count number : ℕ) (text : List ℕ) : Type 0 where
  no_units : has_no_units text ≡ true
  no_digit : begins_with_digit Figure text ≡ false
  no_comma : more_groups text ≡ []
  no_more : after_whole text ≡ text
  ends : ends_in_figures text ≡ true
  decimals : decimals_of text ≡ count
  read : read_on Figure (number / 10 ^ count) text ≡ number
  whole : (method : ChineseCountMethod) (front : List ℕ) (n : ℕ) → list_all is_same front ≡ true
      → whole_answer method (front ++ text) ≡ Ok n
      → (count ≡ 0) × (n ≡ read_on Figure 0 (front ++ text))

-- the point
record IsPoint (c : ℕ) : Type 0 where
  bare : is_bare c ≡ true
  no_unit : has_no_units (c ∷ []) ≡ true
  no_figure : figure_of c ≡ None
  no_comma : is_comma c ≡ false
  point : is_point Figure c ≡ true
  no_mark : is_digit_or_unit (mark_of c) ≡ false

IsPoint-ascii : IsPoint (slice_index (codes ".") 0)
unfolding is_bare is_fen share_of rank_of digit_of figure_of is_point
IsPoint-ascii = record {
  bare = refl;
  no_unit = refl;
  no_figure = refl;
  no_comma = refl;
  point = refl;
  no_mark = refl;
}

IsBehind-point : (count number c : ℕ) → 0 < count → IsPoint c
    → IsBehind count number (c ∷ map figure_char (last_digits count number))
IsBehind-point count number c some p = record {
  no_units = both (is_none (rank_of c)) _ (and-left (is_none (rank_of c)) true p.no_unit)
      (figures-no_units digits figures);
  no_digit = ap is_some p.no_figure;
  no_comma = rw p.no_comma;
  no_more = rw (p.no_figure, p.no_comma) refl;
  ends = rw (p.point, alone.1, decimals);
  decimals = ap (λ b. if b then leading_digits Figure digits else 0) p.point ∙ size;
  read = ap (λ d. value_after (number / 10 ^ count) (cons_option d (filter_map figure_of digits)))
      p.no_figure
      ∙ last-read Figure figure_char count number WritesDigits-figures;
  whole = λ method front n figures h.
      let marks = whole-marks method (front ++ c ∷ digits) n h in
      let broken = marks-broken front c digits p.no_mark in cc;
} where
  digits : List ℕ
  digits = map figure_char (last_digits count number)

  figures : are_digits Figure (map figure_char (last_digits count number)) ≡ true
  figures = last-digits Figure figure_char count number WritesDigits-figures

  alone : (leading_digits Figure (map figure_char (last_digits count number))
      ≡ length (map figure_char (last_digits count number)))
      × (after_digits Figure (map figure_char (last_digits count number)) ≡ [])
  alone = digits-alone Figure (map figure_char (last_digits count number)) figures

  size : leading_digits Figure (map figure_char (last_digits count number)) ≡ count
  size = alone.0 ∙ last-count figure_char count number

  decimals : nat_lt 0 (leading_digits Figure (map figure_char (last_digits count number))) ≡ true
  decimals = let count_is = size in rw count_is (grind (arith, nat_tests, some))

IsBehind-written : (count number : ℕ)
    → IsBehind count number (behind_point (slice_index (codes ".") 0) figure_char count number)
IsBehind-written zero number = record {
  no_units = refl;
  no_digit = refl;
  no_comma = refl;
  no_more = refl;
  ends = refl;
  decimals = refl;
  read = omega arith;
  whole = λ method front n figures h.
      let same = rw append-nil at h in
      (refl, figures-answered method front n figures same ∙ ap (read_on Figure 0) (sym (append-nil front)));
}
IsBehind-written (suc count) number =
    IsBehind-point (suc count) number (slice_index (codes ".") 0) (omega arith) IsPoint-ascii

-- a number whose last `count` digits are after the point
figures-number : (method : ChineseCountMethod) (count number : ℕ) (front behind : List ℕ)
    → IsDecimal (number / 10 ^ count) front → IsBehind count number behind → number < 2 ^ 128
    → number_answer method (front ++ behind)
    ≡ Ok (record { number = number; decimals = count })
figures-number method count number front behind f b small =
    by (whole_answer method (front ++ behind)) refl where
      lead : (leading_digits Figure (front ++ behind) ≡ length front)
          × (after_digits Figure (front ++ behind) ≡ behind)
      lead = digits-lead Figure front behind f.figures b.no_digit

      after : after_whole (front ++ behind) ≡ behind
      after = sym (after-figures (front ++ behind)) ∙ ap after_whole lead.1 ∙ b.no_more

      some : 0 < leading_digits Figure (front ++ behind)
      some = let size = lead.0 in let some = f.some in omega (arith, size, some)

      is : is_in_figures (front ++ behind) ≡ true
      is =
          both (are_groups (groups_of (front ++ behind)))
          (ends_in_figures (after_whole (front ++ behind)))
          (sym (groups-begin (front ++ behind) some) ∙ ap (go_on _) (ap more_groups lead.1 ∙ b.no_comma))
          (ap ends_in_figures after ∙ b.ends)

      read : read_with_units method Figure 0 (front ++ behind) ≡ Some number
      read =
          ap (λ n. times_units method n (front ++ behind))
          (read_on-append Figure 0 front behind ∙ ap (λ n. read_on Figure n behind) f.read ∙ b.read)
          ∙ no-factors method number (front ++ behind)
          (list_all-append (λ c. is_none (rank_of c)) front behind
          ∙ both (has_no_units front) _ (figures-no_units front f.figures) b.no_units) small

      by : (first : Result ℕ Refusal) → whole_answer method (front ++ behind) ≡ first
          → or_shaped first (shaped_number method (front ++ behind))
          ≡ Ok (record { number = number; decimals = count })
      by (Err refusal) e =
          in-figures method (front ++ behind) is
          ∙ ap₂ (λ decimals read. decimal_of decimals read) (ap decimals_of after ∙ b.decimals) read
      by (Ok n) e =
          let alone = b.whole method front n f.same e in
          let none = alone.0 in
          let same : n ≡ number = alone.1 ∙ read_on-append Figure 0 front behind
          ∙ ap (λ n. read_on Figure n behind) f.read ∙ b.read in
          rw (same, none)

IsNumberText-figures : (method : ChineseCountMethod) (count number : ℕ) → number < 2 ^ 128
    → (0 < length (figures_with count number))
    × IsNumberText method (record { number = number; decimals = count })
    (figures_with count number)
IsNumberText-figures method count number small =
    let front = decimal (number / 10 ^ count) in
    let behind = behind_point (slice_index (codes ".") 0) figure_char count number in
    let f = IsDecimal-written (number / 10 ^ count)
    (omega (arith, small, div-le_self number (10 ^ count))) in
    let b = IsBehind-written count number in
    let some = f.some in (
      omega (arith, some, length-append front behind),
      record {
        bare = bare-append front behind (digits-all Figure is_bare figure-bare front f.figures)
            (behind-bare Figure (slice_index (codes ".") 0) figure_char count number
            IsPoint-ascii.bare WritesDigits-figures figure-bare);
        no_sign = figures-no_sign front behind f.figures f.some;
        read = figures-number method count number front behind f b small;
      },
    )

-- a percentage
sign-front : (text more : List ℕ) → 0 < length text
    → leading_sign (text ++ more) ≡ leading_sign text
sign-front [] more some = absurd (omega (arith, some))
sign-front (c ∷ rest) more some = refl

percent-is : (share_of (slice_index (codes "%") 0) ≡ Some 100)
    × (lacks is_fen (codes "%") ≡ true)
unfolding share_of is_fen
percent-is = (refl, refl)

IsText-percent : IsText (codes "%")
IsText-percent = record { scalars = refl; kept = refl; bare = refl }

IsUnsigned-percent : (method : ChineseCountMethod) (number decimals denominator : ℕ)
    (text : List ℕ) → 0 < length text
    → IsNumberText method (record { number = number; decimals = decimals }) text
    → decimals_in Percent denominator ≡ Some decimals → denominator < 2 ^ 128
    → IsUnsigned method
    (record { numerator = number; denominator = denominator; form = Percent })
    (text ++ codes "%")
IsUnsigned-percent method number decimals denominator text some n is small = record {
  written = text_is;
  no_sign = sign-front text (codes "%") some ∙ n.no_sign;
  no_minus = no-negated (text ++ codes "%")
      (lacks-append is_fen text (codes "%") (bare-no_fen text n.bare) (percent-is.1));
  read = percent-ratio method (record { number = number; decimals = decimals })
      (slice_index (codes "%") 0) text (not-mixed method (text ++ codes "%") text_is)
      (lacks-append is_fen text (codes "%") (bare-no_fen text n.bare) (percent-is.1))
      (percent-is.0) some n.read
      ∙ ratio-fits 100 number decimals denominator Percent
      (over-is 100 denominator decimals is) small;
} where
  text_is : IsText (text ++ codes "%")
  text_is = IsText-append text (codes "%") (bare-text text n.bare) IsText-percent

-- a quantity without its sign
figures-by : (method : ChineseCountMethod) (form : QuantityForm)
    (number denominator decimals : ℕ) → decimals_in form denominator ≡ Some decimals
    → number < 2 ^ 128 → denominator < 2 ^ 128
    → IsUnsigned method
    (record { numerator = number; denominator = denominator; form = form })
    (figures_with decimals number ++ percent_sign form)
figures-by method Whole number denominator decimals is small fits =
    rw append-nil (IsUnsigned-whole method number decimals denominator
    (figures_with decimals number) (IsNumberText-figures method decimals number small).1 is fits)
figures-by method Decimal number denominator decimals is small fits =
    rw append-nil (IsUnsigned-decimal method number decimals denominator
    (figures_with decimals number) (IsNumberText-figures method decimals number small).1 is fits)
figures-by method Percent number denominator decimals is small fits =
    let n = IsNumberText-figures method decimals number small in
    IsUnsigned-percent method number decimals denominator (figures_with decimals number)
    n.0 n.1 is fits
figures-by method Fraction number denominator decimals is small fits = cc

-- a quantity with its sign
minus-is : sign_of (slice_index (codes "-") 0) ≡ Some Minus
unfolding sign_of numeral_sign
minus-is = refl

IsText-minus : IsText (codes "-")
IsText-minus = record { scalars = refl; kept = refl; bare = refl }

figures-encoded : (method : ChineseCountMethod) (q : Quantity) (decimals : ℕ)
    → holds (signed_kind 128) q.numerator ≡ true → q.denominator < 2 ^ 128
    → decimals_of_quantity q ≡ Some decimals
    → quantity_answer method (encode_utf8_all (figures_of q)) ≡ Ok q
figures-encoded method q decimals held fits is =
    let unsigned : IsUnsigned method
    (record { numerator = nat_abs q.numerator; denominator = q.denominator; form = q.form })
    (unsigned_figures q) = rw is (figures-by method q.form (nat_abs q.numerator) q.denominator
    decimals is (magnitude-fits q.numerator held) fits) in
    signed-read method q.numerator q.denominator q.form (slice_index (codes "-") 0)
    (unsigned_figures q) held minus-is IsText-minus unsigned

-- figures are ASCII
IsAscii-one : (c : ℕ) → c < 128 → IsAscii (c ∷ [])
IsAscii-one c low zero = low
IsAscii-one c low (suc i) = omega arith

IsAscii-last : (count number : ℕ) → IsAscii (map figure_char (last_digits count number))
IsAscii-last zero number = IsAscii-nil
IsAscii-last (suc count) number =
    IsAscii-append (figure_char (number / 10 ^ count % 10) ∷ [])
    (map figure_char (last_digits count number))
    (IsAscii-one (figure_char (number / 10 ^ count % 10)) (omega arith))
    (IsAscii-last count number)

IsAscii-behind : (count number : ℕ)
    → IsAscii (behind_point (slice_index (codes ".") 0) figure_char count number)
IsAscii-behind zero number = IsAscii-nil
IsAscii-behind (suc count) number =
    IsAscii-append (codes ".") (map figure_char (last_digits (suc count) number))
    (IsAscii-one (slice_index (codes ".") 0) (omega arith)) (IsAscii-last (suc count) number)

IsAscii-percent : (form : QuantityForm) → IsAscii (percent_sign form)
IsAscii-percent Whole = IsAscii-nil
IsAscii-percent Decimal = IsAscii-nil
IsAscii-percent Percent = IsAscii-one (slice_index (codes "%") 0) (omega arith)
IsAscii-percent Fraction = IsAscii-nil

IsAscii-sign : (negative : Bool) → IsAscii (if negative then codes "-" else [])
IsAscii-sign true = IsAscii-one (slice_index (codes "-") 0) (omega arith)
IsAscii-sign false = IsAscii-nil

IsAscii-unsigned : (q : Quantity) (decimals : Option ℕ) → nat_abs q.numerator < 2 ^ 128
    → q.denominator < 2 ^ 128
    → IsAscii (option_map_or
    (λ decimals. figures_with decimals (nat_abs q.numerator) ++ percent_sign q.form) decimals
    (decimal (nat_abs q.numerator) ++ (codes "/" ++ decimal q.denominator)))
IsAscii-unsigned q (Some decimals) small fits =
    let number = nat_abs q.numerator in
    let whole : number / 10 ^ decimals < 10 ^ 64 =
    omega (arith, small, div-le_self number (10 ^ decimals)) in
    IsAscii-append (figures_with decimals number) (percent_sign q.form)
    (IsAscii-append (decimal (number / 10 ^ decimals))
    (behind_point (slice_index (codes ".") 0) figure_char decimals number)
    (IsAscii-decimal_wide (number / 10 ^ decimals) whole) (IsAscii-behind decimals number))
    (IsAscii-percent q.form)
IsAscii-unsigned q None small fits =
    IsAscii-append (decimal (nat_abs q.numerator)) (codes "/" ++ decimal q.denominator)
    (IsAscii-decimal_wide (nat_abs q.numerator) (omega (arith, small)))
    (IsAscii-append (codes "/") (decimal q.denominator)
    (IsAscii-one (slice_index (codes "/") 0) (omega arith))
    (IsAscii-decimal_wide q.denominator (omega (arith, fits))))

pub IsAscii-figures : (q : Quantity) → holds (signed_kind 128) q.numerator ≡ true
    → q.denominator < 2 ^ 128 → IsAscii (figures_of q)
IsAscii-figures q held fits =
    IsAscii-append (if int_lt q.numerator (pos 0) then codes "-" else []) (unsigned_figures q)
    (IsAscii-sign (int_lt q.numerator (pos 0)))
    (IsAscii-unsigned q (decimals_of_quantity q) (magnitude-fits q.numerator held) fits)

pub figures-read : (method : ChineseCountMethod) (q : Quantity) (decimals : ℕ)
    → holds (signed_kind 128) q.numerator ≡ true → q.denominator < 2 ^ 128
    → decimals_of_quantity q ≡ Some decimals
    → quantity_answer method (figures_of q) ≡ Ok q
figures-read method q decimals held fits is =
    ap (quantity_answer method) (sym (encodes-IsAscii (figures_of q)
    (IsAscii-figures q held fits)))
    ∙ figures-encoded method q decimals held fits is
