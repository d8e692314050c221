-- A text that consists of digits and units of numerals is read as the readers of numerals read it.
use Rattle.std.proofs.Common.{◌≡◌, ℕ, ◌+◌, ◌*◌, ◌^◌, ◌<◌, ◌≤◌, Bool, true, false, not, nat_le, nat_lt, ◌&&◌, ◌||◌, ◌==◌, List, [], ◌∷◌, ◌++◌, length, map, take, drop, codes, ℤ, Option, Some, None, is_none, is_some, Result, Ok, Err, refl, sym, ap, ap₂, subst, ◌∙◌, arith, if◌then◌else◌}
use Rattle.std.specs.List.{list_all}
use Rattle.std.specs.Option.{option_map_or}
use Rattle.std.proofs.lemmas.Bool.Decides.{nat_tests}
use Rattle.std.proofs.Math.Nat.{mul_assoc}
use Rattle.std.proofs.lemmas.List.{take-append-drop}
use Rattle.std.proofs.lemmas.List.Folds.{list_all-append}
use Rattle.cn_core.specs.declared.method.ChineseCountMethod.{ChineseCountMethod}
use Rattle.std.specs.Char.{char_set_contains}
use Rattle.cn_core.specs.declared.sign.Sign.{Sign}
use Rattle.cn_core.specs.declared.sign.Sign.TheVariants.{Plus, Minus}
use Rattle.cn_core.specs.Characters.{digit_of, digit_rows, rank_of, unit_rows}
use Rattle.cn_core.specs.Characters.{sign_of as numeral_sign}
use Rattle.cn_core.specs.Judge.{last_mark_answer, numeral_answer}
use Rattle.cn_core.specs.Judging.{judge, judge_body}
use Rattle.cn_core.specs.Mark.{Mark, digit, unit, other, mark_from, mark_of}
use Rattle.cn_core.specs.Naive.{decimal_value, naive_answer}
use Rattle.cn_core.specs.Numeral.{each_may_precede, is_digit_or_unit, is_numeral, may_precede, starts_with_digit, with_first_digit}
use Rattle.cn_core.specs.Place.{body, some_unfit}
use Rattle.cn_core.specs.Reading.{is_minus, sign_len, typed_number}
use Rattle.cn_core.specs.Reading.{leading_sign as numeral_leading_sign}
use Rattle.cn_core.specs.Refusal.{Refusal, empty, incorrect_at, too_large, too_small}
use Rattle.cn_core.specs.Scale.{scale, scale_fits}
use Rattle.cn_core.specs.Text.{marks_of, text_of}
use Rattle.cn_core.specs.Whole.{signed_kind, signed_number}
use Rattle.cn_core.specs.Value.{colloquial_value, numeral_value, product, records_from}
use Rattle.cn_core.proofs.Fronts.{and-left, and-right, both}
use Rattle.cn_core.specs.FigureCharacters.{figure_of, is_currency}
use Rattle.cn_judge.proofs.Walking.{outside-mark}
use Rattle.cn_quantity.specs.declared.characters.DigitKind.TheVariants.{Chinese}
use Rattle.cn_quantity.specs.declared.quantity.QuantityForm.TheVariants.{Whole}
use Rattle.cn_quantity.specs.Answer.{and_then, further_by}
use Rattle.cn_quantity.specs.Characters.{is_fen, is_ling, is_point, is_xia, is_you, share_of, sign_of}
use Rattle.cn_quantity.specs.Number.{number_answer, or_shaped, shaped_number}
use Rattle.cn_quantity.proofs.Growing.{times-unit}
use Rattle.cn_quantity.proofs.Ratios.{a-number, simple-is}
use Rattle.cn_quantity.proofs.MixedTexts.{no-you}
use Rattle.cn_quantity.specs.Ratio.{after_bar, after_you, before_bar, begins_with_minus, form_of, is_fraction, is_negated, last_share, ratio_answer, ratio_of, share}
use Rattle.cn_quantity.specs.Reading.{begins_number, front_length, is_below_zero, leading_sign, number_sign, quantity_answer, sign_length, signed_answer, yen_length}
use Rattle.cn_quantity.proofs.Signed.{not-negated as rest-not_negated, quantity-plain}
use Rattle.cn_quantity.specs.Misread.{bare_ten_between, first_misread}
use Rattle.cn_quantity.specs.Units.{are_rising, times_units}
use Rattle.cn_quantity.specs.WholeNumber.{fitting, is_plain, misread_answer, reader_answer, refused_at, sum_answer, whole_answer}
use Rattle.cn_quantity.proofs.WholeNumbers.{whole-reader}

-- properties that each digit and unit of numerals has
pub own : (p : ℕ → Bool) (c : ℕ) → list_all (list_all p) digit_rows ≡ true
    → list_all (list_all p) unit_rows ≡ true → is_digit_or_unit (mark_of c) ≡ true → p c ≡ true
own p c digits units marked = by (p c) refl where
  by : (b : Bool) → p c ≡ b → b ≡ true
  by true e = refl
  by false e =
      let none : is_digit_or_unit other ≡ true =
      ap is_digit_or_unit (sym (outside-mark p c digits units e)) ∙ marked in cc

pub none-of : (b : Bool) → not b ≡ true → b ≡ false
none-of true h = cc
none-of false h = refl

-- and properties that none of them has
lacks : (p : ℕ → Bool) (c : ℕ) → list_all (list_all (λ c. not (p c))) digit_rows ≡ true
    → list_all (list_all (λ c. not (p c))) unit_rows ≡ true → is_digit_or_unit (mark_of c) ≡ true
    → p c ≡ false
lacks p c digits units marked = none-of (p c) (own (λ c. not (p c)) c digits units marked)

pub no-point : (c : ℕ) → is_digit_or_unit (mark_of c) ≡ true → is_point Chinese c ≡ false
unfolding is_point
no-point c = lacks (is_point Chinese) c refl refl

no-fen : (c : ℕ) → is_digit_or_unit (mark_of c) ≡ true → is_fen c ≡ false
unfolding is_fen
no-fen c = lacks is_fen c refl refl

no-share : (c : ℕ) → is_digit_or_unit (mark_of c) ≡ true → share_of c ≡ None
unfolding share_of
no-share c marked = none (share_of c) (lacks (λ c. is_some (share_of c)) c refl refl marked) where
  none : (o : Option ℕ) → is_some o ≡ false → o ≡ None
  none None h = refl
  none (Some divisor) h = cc

pub digit-low : (c v : ℕ) → digit_of c ≡ Some v → v ≤ 9
unfolding digit_of
digit-low c v is =
    let marked : is_digit_or_unit (mark_of c) ≡ true =
    ap (λ d. is_digit_or_unit (mark_from d (rank_of c))) is in
    let low : option_map_or (λ v. nat_le v 9) (Some v) true ≡ true =
    ap (λ d. option_map_or (λ v. nat_le v 9) d true) (sym is)
    ∙ own (λ c. option_map_or (λ v. nat_le v 9) (digit_of c) true) c refl refl marked in
    grind (arith, nat_tests, low)

-- no character is a digit and a unit
one-kind : (c rank : ℕ) → rank_of c ≡ Some rank → digit_of c ≡ None
unfolding digit_of rank_of
one-kind c rank is = by (digit_of c) refl where
  by : (d : Option ℕ) → digit_of c ≡ d → d ≡ None
  by None e = refl
  by (Some v) e =
      let marked : is_digit_or_unit (mark_of c) ≡ true = rw e in
      let two = lacks (λ c. is_some (digit_of c) && is_some (rank_of c)) c refl refl marked in
      let both = rw (e, is) at two in cc

unit-mark : (c rank : ℕ) → rank_of c ≡ Some rank → mark_of c ≡ unit rank
unit-mark c rank is = rw (one-kind c rank is, is)

pub digit-mark : (c v : ℕ) → digit_of c ≡ Some v → mark_of c ≡ digit v
digit-mark c v is = ap (λ d. mark_from d (rank_of c)) is

pub digit-no_unit : (c v : ℕ) → digit_of c ≡ Some v → rank_of c ≡ None
digit-no_unit c v is = by (rank_of c) refl where
  by : (r : Option ℕ) → rank_of c ≡ r → r ≡ None
  by None e = refl
  by (Some rank) e = let none = one-kind c rank e in cc

-- only digits and units
abbrev pub are_marks : List ℕ → Bool
are_marks text = list_all (λ c. is_digit_or_unit (mark_of c)) text

pub first-mark : (c : ℕ) (rest : List ℕ) → are_marks (c ∷ rest) ≡ true
    → is_digit_or_unit (mark_of c) ≡ true
first-mark c rest h = and-left (is_digit_or_unit (mark_of c)) (are_marks rest) h

pub rest-marks : (c : ℕ) (rest : List ℕ) → are_marks (c ∷ rest) ≡ true → are_marks rest ≡ true
rest-marks c rest h = and-right (is_digit_or_unit (mark_of c)) (are_marks rest) h

no-you_mark : (c : ℕ) → is_digit_or_unit (mark_of c) ≡ true → is_you c ≡ false
no-you_mark c = lacks is_you c refl refl

you-nowhere : (text : List ℕ) → are_marks text ≡ true → after_you text ≡ []
you-nowhere [] h = refl
you-nowhere (c ∷ rest) h =
    ap (λ b. if b then rest else after_you rest) (no-you_mark c (first-mark c rest h))
    ∙ you-nowhere rest (rest-marks c rest h)

bar-nowhere : (text : List ℕ) → are_marks text ≡ true → after_bar text ≡ []
bar-nowhere [] h = refl
bar-nowhere (c ∷ []) h = refl
bar-nowhere (c ∷ next ∷ rest) h =
    rw (no-fen c (first-mark c (next ∷ rest) h))
    (bar-nowhere (next ∷ rest) (rest-marks c (next ∷ rest) h))

share-nowhere : (text : List ℕ) → are_marks text ≡ true → last_share text ≡ None
share-nowhere [] h = refl
share-nowhere (c ∷ []) h = no-share c (first-mark c [] h)
share-nowhere (c ∷ next ∷ rest) h =
    share-nowhere (next ∷ rest) (rest-marks c (next ∷ rest) h)

pub and-none : (b : Bool) → (b && false) ≡ false
and-none true = refl
and-none false = refl

no-fraction : (text : List ℕ) → are_marks text ≡ true → is_fraction text ≡ false
no-fraction text h =
    ap (λ l. nat_lt 0 (length (before_bar text)) && nat_lt 0 (length l)) (bar-nowhere text h)
    ∙ and-none (nat_lt 0 (length (before_bar text)))

no-shares : (text : List ℕ) → are_marks text ≡ true → share text ≡ None
no-shares text h = by (nat_lt 1 (length text)) (share-nowhere text h) where
  by : (b : Bool) → last_share text ≡ None → (if b then last_share text else None) ≡ None
  by true h = h
  by false h = refl

-- the first of rising units, and the units after it
record IsRising (least c : ℕ) (rest : List ℕ) : Type 0 where
  rank : ℕ
  is : rank_of c ≡ Some rank
  above : least < rank
  more : are_rising rank rest ≡ true

rising-first : (least c : ℕ) (rest : List ℕ) → are_rising least (c ∷ rest) ≡ true
    → IsRising least c rest
rising-first least c rest h = by (rank_of c) refl h where
  by : (r : Option ℕ) → rank_of c ≡ r
      → option_map_or (λ rank. nat_lt least rank && are_rising rank rest) r false ≡ true
      → IsRising least c rest
  by None e h = cc
  by (Some rank) e h = record {
    rank = rank;
    is = e;
    above = grind (arith, nat_tests, and-left (nat_lt least rank) (are_rising rank rest) h);
    more = and-right (nat_lt least rank) (are_rising rank rest) h;
  }

fits : (a b : Bool) → (not a || b) ≡ false → (a ≡ true) × (b ≡ false)
fits true b h = (refl, h)
fits false b h = cc

-- rising units count the product of their scales
pub units-product : (method : ChineseCountMethod) (least k number : ℕ) (text : List ℕ)
    → are_rising least text ≡ true → k ≤ least + 1 → some_unfit method (marks_of text) ≡ false
    → number * product (map (scale method) (records_from k (marks_of text))) < 2 ^ 128
    → times_units method number text
    ≡ Some (number * product (map (scale method) (records_from k (marks_of text))))
units-product method least k number [] rising low fit small =
    let test : nat_lt (number * 1) (2 ^ 128) ≡ true = grind (arith, nat_tests, small) in
    rw test refl
units-product method least k number (c ∷ rest) rising low fit small =
    let r = rising-first least c rest rising in
    let mark = unit-mark c r.rank r.is in
    let above = r.above in
    let test : nat_le k r.rank ≡ true = grind (arith, nat_tests, above, low) in
    let others = product (map (scale method) (records_from (r.rank + 1) (marks_of rest))) in
    let fit = fits (scale_fits method r.rank) (some_unfit method (marks_of rest)) (rw mark at fit) in
    let all : number * product (map (scale method) (records_from k (marks_of (c ∷ rest))))
    ≡ number * scale method r.rank * others =
    rw (mark, test) (sym (mul_assoc number (scale method r.rank) others)) in
    times-unit method number c r.rank rest r.is fit.0
    ∙ units-product method r.rank (r.rank + 1) (number * scale method r.rank) rest r.more
    (omega arith) fit.1 (rw all at small)
    ∙ ap Some (sym all)

-- they contain no digits
pub units-no_value : (method : ChineseCountMethod) (least : ℕ) (text : List ℕ)
    → are_rising least text ≡ true → colloquial_value method (marks_of text) ≡ 0
units-no_value method least [] h = refl
units-no_value method least (c ∷ []) h =
    let r = rising-first least c [] h in rw (unit-mark c r.rank r.is)
units-no_value method least (c ∷ d ∷ more) h =
    let r = rising-first least c (d ∷ more) h in
    let next = rising-first r.rank d more r.more in
    let none = units-no_value method r.rank (d ∷ more) r.more in
    rw (unit-mark c r.rank r.is, unit-mark d next.rank next.is)
    (rw (unit-mark d next.rank next.is) at none)

-- the answer to a number is the number that is read
pub number-whole : (method : ChineseCountMethod) (text : List ℕ) (number : ℕ)
    → whole_answer method text ≡ Ok number
    → number_answer method text ≡ Ok (record { number = number; decimals = 0 })
number-whole method text number is = rw is

pub ratio-whole : (method : ChineseCountMethod) (text : List ℕ) (number : ℕ)
    → are_marks text ≡ true
    → number_answer method text ≡ Ok (record { number = number; decimals = 0 })
    → ratio_answer method text
    ≡ Ok (record { numerator = number; denominator = 1; form = Whole })
ratio-whole method text number m is =
    simple-is method text (no-you method text (you-nowhere text m))
    ∙ a-number method text (no-fraction text m) (no-shares text m)
    ∙ ap (λ a. and_then a (λ decimal. ratio_of 1 (form_of decimal.decimals) decimal)) is

-- a text that is a numeral
pub judged-numeral : (method : ChineseCountMethod) (marks : List Mark) (number : ℕ)
    → judge method marks ≡ Ok number
    → (is_numeral marks ≡ true) × (numeral_answer method marks ≡ Ok number)
judged-numeral method [] number h = cc
judged-numeral method (mark ∷ rest) number h =
    by (is_numeral (mark ∷ rest)) (is_numeral (body (mark ∷ rest))) refl h where
      refused : (b : Bool) (one two : Refusal)
          → ◌≡◌ {A = Result ℕ Refusal} (if b then Err one else Err two) (Ok number) → ⊥
      refused true one two e = cc
      refused false one two e = cc

      by : (a b : Bool) → is_numeral (mark ∷ rest) ≡ a
          → (if a then numeral_answer method (mark ∷ rest)
          else (if b then last_mark_answer method (mark ∷ rest)
          else judge_body method (body (mark ∷ rest)))) ≡ Ok number
          → (is_numeral (mark ∷ rest) ≡ true) × (numeral_answer method (mark ∷ rest) ≡ Ok number)
      by true b e h = (e, h)
      by false true e h = absurd (refused _ _ _ h)
      by false false e h = absurd (refused _ _ _ h)

pub answered-numeral : (method : ChineseCountMethod) (marks : List Mark) (number : ℕ)
    → numeral_answer method marks ≡ Ok number
    → (some_unfit method marks ≡ false) × (numeral_value method marks ≡ number)
    × (number < 2 ^ 128)
answered-numeral method marks number h =
    by (some_unfit method marks) (nat_lt (numeral_value method marks) (2 ^ 128)) refl refl h where
      by : (a b : Bool) → some_unfit method marks ≡ a
          → nat_lt (numeral_value method marks) (2 ^ 128) ≡ b
          → (if not a && b then Ok (numeral_value method marks) else Err too_large) ≡ Ok number
          → (some_unfit method marks ≡ false) × (numeral_value method marks ≡ number)
          × (number < 2 ^ 128)
      by true b e f h = cc
      by false false e f h = cc
      by false true e f h =
          let same : numeral_value method marks ≡ number = cc in
          (e, same, grind (arith, nat_tests, f, same))

each-marks : (text : List ℕ) → each_may_precede (marks_of text) ≡ true → are_marks text ≡ true
each-marks [] h = refl
each-marks (c ∷ rest) h =
    both (is_digit_or_unit (mark_of c)) (are_marks rest)
    (first (mark_of c) (marks_of rest) (and-left (may_precede (mark_of c) (marks_of rest)) _ h))
    (each-marks rest (and-right (may_precede (mark_of c) (marks_of rest)) _ h)) where
      first : (mark : Mark) (marks : List Mark) → may_precede mark marks ≡ true
          → is_digit_or_unit mark ≡ true
      first (digit value) marks h = refl
      first (unit rank) marks h = refl
      first other marks h = cc

numeral-marks : (text : List ℕ) → is_numeral (marks_of text) ≡ true → are_marks text ≡ true
numeral-marks [] h = refl
numeral-marks (c ∷ rest) h =
    by (mark_of c) refl (and-right (starts_with_digit (with_first_digit (marks_of (c ∷ rest)))) _ h)
  where
    after : (mark : Mark) → each_may_precede (mark ∷ marks_of rest) ≡ true → are_marks rest ≡ true
    after mark e = each-marks rest (and-right (may_precede mark (marks_of rest)) _ e)

    by : (mark : Mark) → mark_of c ≡ mark
        → each_may_precede (with_first_digit (mark ∷ marks_of rest)) ≡ true
        → are_marks (c ∷ rest) ≡ true
    by (digit value) is e = rw is (after (digit value) e)
    by (unit rank) is e = rw is (after (if rank == 1 then digit 10 else unit rank) e)
    by other is e = cc

-- the first of plain digits, and the digits after it
record IsPlain (c : ℕ) (rest : List ℕ) : Type 0 where
  value : ℕ
  is : digit_of c ≡ Some value
  more : is_plain rest ≡ true

plain-first : (c : ℕ) (rest : List ℕ) → is_plain (c ∷ rest) ≡ true → IsPlain c rest
plain-first c rest h =
    by (digit_of c) refl (and-left (is_some (digit_of c)) (is_plain rest) h) where
      by : (d : Option ℕ) → digit_of c ≡ d → is_some d ≡ true → IsPlain c rest
      by None e some = cc
      by (Some v) e some = record {
        value = v;
        is = e;
        more = and-right (is_some (digit_of c)) (is_plain rest) h;
      }

pub plain-marks : (text : List ℕ) → is_plain text ≡ true → are_marks text ≡ true
plain-marks [] h = refl
plain-marks (c ∷ rest) h =
    let d = plain-first c rest h in rw (digit-mark c d.value d.is) (plain-marks rest d.more)

-- only texts of digits and units are read as a whole number; any other text is read by its shape
reader-marks : (method : ChineseCountMethod) (text : List ℕ) (number : ℕ)
    → reader_answer method text ≡ Ok number → are_marks text ≡ true
reader-marks method text number h = by (is_plain text) refl h where
  by : (b : Bool) → is_plain text ≡ b
      → (if b then naive_answer (marks_of text) else judge method (marks_of text)) ≡ Ok number
      → are_marks text ≡ true
  by true e h = plain-marks text e
  by false e h = numeral-marks text (judged-numeral method (marks_of text) number h).0

-- both parts of a sum are read
sum-read : (method : ChineseCountMethod) (rank number : ℕ) (before from : List ℕ)
    → sum_answer method rank before from ≡ Ok number
    → (are_marks before ≡ true) × (are_marks from ≡ true)
sum-read method rank number before from h = by (judge method (marks_of before)) refl h where
  marks : (text : List ℕ) (n : ℕ) → judge method (marks_of text) ≡ Ok n → are_marks text ≡ true
  marks text n e = numeral-marks text (judged-numeral method (marks_of text) n e).0

  next : (first : ℕ) (second : Result ℕ Refusal) → are_marks before ≡ true
      → judge method (marks_of from) ≡ second
      → and_then (further_by (length before) second) (λ second.
      if nat_lt second (scale method rank) then fitting (first + second)
      else Err (incorrect_at (length before))) ≡ Ok number
      → (are_marks before ≡ true) × (are_marks from ≡ true)
  next first (Ok second) m is e = (m, marks from second is)
  next first (Err empty) m is e = cc
  next first (Err too_large) m is e = cc
  next first (Err too_small) m is e = cc
  next first (Err (incorrect_at place)) m is e = cc

  by : (first : Result ℕ Refusal) → judge method (marks_of before) ≡ first
      → and_then first (λ first.
      and_then (further_by (length before) (judge method (marks_of from))) (λ second.
      if nat_lt second (scale method rank) then fitting (first + second)
      else Err (incorrect_at (length before)))) ≡ Ok number
      → (are_marks before ≡ true) × (are_marks from ≡ true)
  by (Ok first) is e = next first (judge method (marks_of from)) (marks before first is) refl e
  by (Err refusal) is e = cc

-- what refuses a misread text is no number
refused-none : (answer : Result ℕ Refusal) (place number : ℕ)
    → refused_at answer place ≡ Ok number → ⊥
refused-none (Ok value) place number e = cc
refused-none (Err refusal) place number e = cc

pub whole-marks : (method : ChineseCountMethod) (text : List ℕ) (number : ℕ)
    → whole_answer method text ≡ Ok number → are_marks text ≡ true
whole-marks method text number h = by (first_misread text) h where
  refused : (answer : Result ℕ Refusal) (place : ℕ) → refused_at answer place ≡ Ok number → ⊥
  refused (Ok read) place e = cc
  refused (Err refusal) place e = cc

  parts : (place : ℕ) (bare : Option ℕ)
      → option_map_or (λ rank. sum_answer method rank (take place text) (drop place text)) bare
      (refused_at (reader_answer method (take place text ++ drop place text))
      (length (take place text))) ≡ Ok number → are_marks text ≡ true
  parts place (Some rank) e =
      let read = sum-read method rank number (take place text) (drop place text) e in
      let test = λ (c : ℕ). is_digit_or_unit (mark_of c) in
      ap are_marks (sym (take-append-drop place text))
      ∙ list_all-append test (take place text) (drop place text)
      ∙ both (are_marks (take place text)) (are_marks (drop place text)) read.0 read.1
  parts place None e =
      absurd (refused-none (reader_answer method (take place text ++ drop place text)) _ number e)

  by : (found : Option ℕ)
      → option_map_or (λ place. misread_answer method (take place text) (drop place text)) found
      (reader_answer method text) ≡ Ok number → are_marks text ≡ true
  by None e = reader-marks method text number e
  by (Some place) e = parts place (bare_ten_between (take place text) (drop place text)) e

pub number-shaped : (method : ChineseCountMethod) (text : List ℕ) → are_marks text ≡ false
    → number_answer method text ≡ shaped_number method text
number-shaped method text none = by (whole_answer method text) refl where
  by : (first : Result ℕ Refusal) → whole_answer method text ≡ first
      → or_shaped first (shaped_number method text) ≡ shaped_number method text
  by (Ok number) e = let marks = whole-marks method text number e in cc
  by (Err refusal) e = refl

pub marks-broken : (front : List ℕ) (c : ℕ) (rest : List ℕ)
    → is_digit_or_unit (mark_of c) ≡ false → are_marks (front ++ c ∷ rest) ≡ false
marks-broken [] c rest h = rw h
marks-broken (d ∷ front) c rest h =
    rw (marks-broken front c rest h) (and-none (is_digit_or_unit (mark_of d)))

pub point-no_mark : (c : ℕ) → is_point Chinese c ≡ true → is_digit_or_unit (mark_of c) ≡ false
point-no_mark c is = by (is_digit_or_unit (mark_of c)) refl where
  by : (b : Bool) → is_digit_or_unit (mark_of c) ≡ b → b ≡ false
  by true e = let none = no-point c e in cc
  by false e = refl

-- a text that is judged a number, or is plain digits, is that number over 1
pub numeral-ratio : (method : ChineseCountMethod) (text : List ℕ) (number : ℕ)
    → judge method (marks_of text) ≡ Ok number → whole_answer method text ≡ Ok number
    → (are_marks text ≡ true)
    × (ratio_answer method text
    ≡ Ok (record { numerator = number; denominator = 1; form = Whole }))
numeral-ratio method text number h is =
    let numeral = judged-numeral method (marks_of text) number h in
    let m = numeral-marks text numeral.0 in (
      m,
      ratio-whole method text number m (number-whole method text number is),
    )

pub plain-ratio : (method : ChineseCountMethod) (text : List ℕ) → is_plain text ≡ true
    → first_misread text ≡ None → decimal_value (marks_of text) < 2 ^ 128
    → naive_answer (marks_of text) ≡ Ok (decimal_value (marks_of text))
    → ratio_answer method text
    ≡ Ok (record { numerator = decimal_value (marks_of text); denominator = 1; form = Whole })
plain-ratio method text plain clear small is =
    let m = plain-marks text plain in
    let whole : whole_answer method text ≡ Ok (decimal_value (marks_of text)) =
    whole-reader method text clear ∙ rw plain is in
    ratio-whole method text (decimal_value (marks_of text)) m
    (number-whole method text (decimal_value (marks_of text)) whole)

-- signs
same_sign : Option Sign → Option Sign → Bool
same_sign None None = true
same_sign (Some Plus) (Some Plus) = true
same_sign (Some Minus) (Some Minus) = true
same_sign a b = false

same_sign-is : (a b : Option Sign) → same_sign a b ≡ true → a ≡ b
unfolding same_sign
same_sign-is None None h = refl
same_sign-is (Some Plus) (Some Plus) h = refl
same_sign-is (Some Minus) (Some Minus) h = refl
same_sign-is None (Some Plus) h = cc
same_sign-is None (Some Minus) h = cc
same_sign-is (Some Plus) None h = cc
same_sign-is (Some Minus) None h = cc
same_sign-is (Some Plus) (Some Minus) h = cc
same_sign-is (Some Minus) (Some Plus) h = cc

pub mark-sign : (c : ℕ) → is_digit_or_unit (mark_of c) ≡ true → sign_of c ≡ numeral_sign c
unfolding same_sign sign_of numeral_sign
mark-sign c m =
    same_sign-is (sign_of c) (numeral_sign c)
    (own (λ c. same_sign (sign_of c) (numeral_sign c)) c refl refl m)

in-set : (p : ℕ → Bool) (row : List ℕ) (c : ℕ) → list_all p row ≡ true
    → char_set_contains row c ≡ true → p c ≡ true
in-set p [] c all h = cc
in-set p (d ∷ row) c all h =
    by (d == c) refl h (λ h. in-set p row c (and-right (p d) (list_all p row) all) h) where
      by : (b : Bool) → (d == c) ≡ b → (b || char_set_contains row c) ≡ true
          → (char_set_contains row c ≡ true → p c ≡ true) → p c ≡ true
      by true e h ih =
          let same : d ≡ c = grind (arith, nat_tests, e) in
          subst (λ c. p c ≡ true) same (and-left (p d) (list_all p row) all)
      by false e h ih = ih h

sign-kept : (c : ℕ) (sign : Sign) → numeral_sign c ≡ Some sign → sign_of c ≡ numeral_sign c
unfolding same_sign sign_of numeral_sign
sign-kept c sign h =
    same_sign-is (sign_of c) (numeral_sign c)
    (by (char_set_contains (codes "正") c) (char_set_contains (codes "負负") c) refl refl h) where
      test : ℕ → Bool
      test c = same_sign (sign_of c) (numeral_sign c)

      by : (a b : Bool) → char_set_contains (codes "正") c ≡ a
          → char_set_contains (codes "負负") c ≡ b
          → (if a then Some Plus else (if b then Some Minus else None)) ≡ Some sign
          → test c ≡ true
      by true b e f h = in-set test (codes "正") c refl e
      by false true e f h = in-set test (codes "負负") c refl f
      by false false e f h = cc

pub signs-same : (text : List ℕ)
    → are_marks (drop (sign_len (numeral_leading_sign true text)) text) ≡ true
    → leading_sign text ≡ numeral_leading_sign true text
signs-same [] m = refl
signs-same (c ∷ rest) m = by (numeral_sign c) refl m where
  by : (sign : Option Sign) → numeral_sign c ≡ sign
      → are_marks (drop (sign_len sign) (c ∷ rest)) ≡ true → sign_of c ≡ numeral_sign c
  by None e m = mark-sign c (first-mark c rest m)
  by (Some sign) e m = sign-kept c sign e

-- nothing is before the number except that sign
no-xia : (c : ℕ) → is_digit_or_unit (mark_of c) ≡ true → is_xia c ≡ false
no-xia c = lacks is_xia c refl refl

no-yen : (c : ℕ) → is_digit_or_unit (mark_of c) ≡ true → is_currency c ≡ false
no-yen c = lacks is_currency c refl refl

second-mark : (sign : Option Sign) (c d : ℕ) (rest : List ℕ)
    → are_marks (drop (sign_len sign) (c ∷ d ∷ rest)) ≡ true
    → is_digit_or_unit (mark_of d) ≡ true
second-mark None c d rest m = first-mark d rest (rest-marks c (d ∷ rest) m)
second-mark (Some sign) c d rest m = first-mark d rest m

not-below : (sign : Option Sign) (text : List ℕ)
    → are_marks (drop (sign_len sign) text) ≡ true → is_below_zero text ≡ false
not-below sign [] m = refl
not-below sign (c ∷ []) m = refl
not-below sign (c ∷ d ∷ []) m = refl
not-below sign (c ∷ d ∷ next ∷ rest) m =
    ap (λ b. is_ling c && b && begins_number next)
    (no-xia d (second-mark sign c d (next ∷ rest) m))
    ∙ ap (λ b. b && begins_number next) (and-none (is_ling c))

pub no-yens : (text : List ℕ) → are_marks text ≡ true → yen_length text ≡ 0
no-yens [] m = refl
no-yens (c ∷ []) m = refl
no-yens (c ∷ next ∷ rest) m =
    ap (λ b. if b && is_some (figure_of next) then 1 else 0)
    (no-yen c (first-mark c (next ∷ rest) m))

not-negated : (text : List ℕ) → are_marks text ≡ true → is_negated text ≡ false
not-negated text m = ap (λ b. b && begins_with_minus (after_bar text)) (no-fraction text m)

-- the answer to a string, by the sign of a numeral
pub quantity-today : (method : ChineseCountMethod) (bytes : List ℕ) (number : ℤ) (magnitude : ℕ)
    → let text = text_of bytes in
    let sign = numeral_leading_sign true text in
    are_marks (drop (sign_len sign) text) ≡ true
    → ratio_answer method (drop (sign_len sign) text)
    ≡ Ok (record { numerator = magnitude; denominator = 1; form = Whole })
    → typed_number (signed_kind 128) (signed_number (is_minus sign) magnitude) ≡ Ok number
    → quantity_answer method bytes
    ≡ Ok (record { numerator = number; denominator = 1; form = Whole })
quantity-today method bytes number magnitude m is held =
    let text = text_of bytes in
    let sign = numeral_leading_sign true text in
    let below = not-below (numeral_leading_sign true (text_of bytes)) (text_of bytes) m in
    let leads : number_sign (text_of bytes) ≡ numeral_leading_sign true (text_of bytes) =
    ap (λ b. if b then Some Minus else leading_sign (text_of bytes)) below
    ∙ signs-same (text_of bytes) m in
    let size : sign_length (text_of bytes)
    ≡ sign_len (numeral_leading_sign true (text_of bytes)) =
    ap (λ b. if b then 2 else sign_len (leading_sign (text_of bytes))) below
    ∙ ap sign_len (signs-same (text_of bytes) m) in
    let yens : yen_length (drop (sign_length (text_of bytes)) (text_of bytes)) ≡ 0 =
    ap (λ n. yen_length (drop n (text_of bytes))) size ∙ no-yens _ m in
    let front : front_length (text_of bytes)
    ≡ sign_len (numeral_leading_sign true (text_of bytes)) = omega (arith, size, yens) in
    let rest : drop (front_length (text_of bytes)) (text_of bytes)
    ≡ drop (sign_len (numeral_leading_sign true (text_of bytes))) (text_of bytes) =
    ap (λ n. drop n (text_of bytes)) front in
    quantity-plain method bytes
    (rest-not_negated (is_none (number_sign (text_of bytes))) _
    (ap is_negated rest ∙ not-negated _ m))
    ∙ ap₂ (λ s l. signed_answer bytes s (front_length (text_of bytes)) (ratio_answer method l))
    leads rest
    ∙ ap (signed_answer bytes (numeral_leading_sign true (text_of bytes))
    (front_length (text_of bytes))) is
    ∙ ap (λ a. and_then a (λ numerator. Ok (record {
      numerator = numerator;
      denominator = 1;
      form = Whole;
    }))) held
