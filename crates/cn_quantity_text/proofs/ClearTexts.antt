-- No written spelling is misread.
use Rattle.std.proofs.Common.{◌≡◌, ℕ, ◌*◌, ◌^◌, ◌<◌, pos, Bool, true, false, not, ◌&&◌, ◌||◌, nat_le, List, [], ◌∷◌, ◌++◌, drop, map, None, is_some, refl, sym, ap, ap₂, ◌∙◌, arith, append-nil}
use Rattle.std.specs.List.{list_all}
use Rattle.std.proofs.Math.Decide.{dec_lt}
use Rattle.std.proofs.lemmas.Bool.Decides.{nat_tests}
use Rattle.cn_core.specs.declared.case.ChineseCase.{ChineseCase}
use Rattle.cn_core.specs.declared.case.ChineseCase.TheVariants.{Upper, Lower}
use Rattle.cn_core.specs.declared.method.ChineseCountMethod.{ChineseCountMethod}
use Rattle.cn_core.specs.declared.script.ChineseVariant.{ChineseVariant}
use Rattle.cn_core.specs.declared.script.ChineseVariant.TheVariants.{Traditional, Simple}
use Rattle.cn_core.specs.Characters.{digit_char, unit_char}
use Rattle.cn_core.specs.Mark.{Mark, digit, unit, other, mark_of}
use Rattle.cn_core.specs.Printing.{is_printable, mark_char}
use Rattle.cn_core.specs.Scale.{scale}
use Rattle.cn_core.specs.Spelling.{spelling, spelling_within}
use Rattle.cn_core.specs.Text.{marks_of}
use Rattle.cn_core.proofs.Fronts.{and-left, and-right, both}
use Rattle.cn_core.proofs.Spellings.{short_spelling-by}
use Rattle.cn_quantity_text.specs.Numerals.{magnitude_text}
use Rattle.cn_quantity_text.proofs.ClearSpellings.{IsClear-spelling_within, clears, digit-clear_of}
use Rattle.cn_quantity.specs.Misread.{begins, counts_after_smaller, first_misread, has_two_readings, is_digit, is_liang, is_misread, is_misread_at, is_misread_mark, is_unit, is_unit_from, is_zero, leaves_out_zero, misread_after, unit_before_ten, weighs}
use Rattle.cn_quantity.proofs.Misreads.{bare-same, counted-same}
use Rattle.cn_spell.proofs.Printed.{IsReadBack-marks, each_below, each_below-at, is_printed}
use Rattle.cn_spell.proofs.SpelledMarks.{below_square, spelling-printed}

-- whether 一 is before 十 at the start does not affect the marks after them
begins-ten : (test : Mark → Bool) (front : List Mark)
    → begins test (front ++ unit 1 ∷ digit 1 ∷ []) ≡ begins test (front ++ unit 1 ∷ [])
begins-ten test [] = refl
begins-ten test (mark ∷ rest) = refl

bare-ten : (front : List Mark)
    → unit_before_ten (front ++ unit 1 ∷ digit 1 ∷ []) ≡ unit_before_ten (front ++ unit 1 ∷ [])
bare-ten [] = refl
bare-ten (a ∷ []) = bare-same a (unit 1) (digit 1 ∷ []) []
bare-ten (a ∷ b ∷ rest) =
    bare-same a b (rest ++ unit 1 ∷ digit 1 ∷ []) (rest ++ unit 1 ∷ [])

counted-ten : (rank : ℕ) (front : List Mark)
    → counts_after_smaller rank (front ++ unit 1 ∷ digit 1 ∷ [])
    ≡ counts_after_smaller rank (front ++ unit 1 ∷ [])
counted-ten rank [] = refl
counted-ten rank (a ∷ []) = counted-same rank a (unit 1) (digit 1 ∷ []) []
counted-ten rank (a ∷ b ∷ rest) =
    counted-same rank a b (rest ++ unit 1 ∷ digit 1 ∷ []) (rest ++ unit 1 ∷ [])

dropped-ten : (rank : ℕ) (front : List Mark)
    → (begins (is_unit 0) (front ++ unit 1 ∷ digit 1 ∷ [])
    && counts_after_smaller rank (drop 1 (front ++ unit 1 ∷ digit 1 ∷ [])))
    ≡ (begins (is_unit 0) (front ++ unit 1 ∷ [])
    && counts_after_smaller rank (drop 1 (front ++ unit 1 ∷ [])))
dropped-ten rank [] = refl
dropped-ten rank (a ∷ rest) = ap (λ b. is_unit 0 a && b) (counted-ten rank rest)

two-ten : (front : List Mark) (mark : Mark)
    → has_two_readings (front ++ unit 1 ∷ digit 1 ∷ []) mark
    ≡ has_two_readings (front ++ unit 1 ∷ []) mark
two-ten front (digit v) = refl
two-ten front other = refl
two-ten front (unit rank) =
    ap₂ (λ a b. nat_le 4 rank && (a || b)) (counted-ten rank front) (dropped-ten rank front)

misread-ten : (front : List Mark) (mark : Mark) (after : List Mark)
    → is_misread_mark (front ++ unit 1 ∷ digit 1 ∷ []) mark after
    ≡ is_misread_mark (front ++ unit 1 ∷ []) mark after
misread-ten front mark after =
    let bare = bare-ten front in
    let ten = begins-ten (is_unit 1) front in
    let zero = begins-ten is_zero front in
    let two = two-ten front mark in
    let great = begins-ten (is_unit_from 5) front in
    cc

clears-ten : (front marks after : List Mark)
    → clears (front ++ unit 1 ∷ digit 1 ∷ []) marks after
    ≡ clears (front ++ unit 1 ∷ []) marks after
clears-ten front [] after = refl
clears-ten front (mark ∷ rest) after =
    ap₂ (λ a b. not a && b) (misread-ten front mark (rest ++ after))
    (clears-ten (mark ∷ front) rest after)

-- the marks of each spelling
spelling-clears : (method : ChineseCountMethod) (number : ℕ)
    → number < scale method 15 * scale method 15
    → clears [] (spelling method number) [] ≡ true
spelling-clears method number small =
    short_spelling-by (λ l. clears [] l [] ≡ true) (spelling_within number method number)
    (long number small refl) (λ rest e. short rest (ap (λ l. clears [] l []) (sym e) ∙ long number small refl))
  where
    long : (n : ℕ) → n < scale method 15 * scale method 15 → n ≡ number
        → clears [] (spelling_within n method n) [] ≡ true
    long n low same = elim (dec_lt 0 n) [
      | yes some ↦ (IsClear-spelling_within method n some low).clear [] []
          (record { below = λ rank rest e. cc; great = λ rank rest e high. cc })
      | no none ↦ let e : n ≡ 0 = omega (arith, none) in rw e refl
    ]

    short : (rest : List Mark) → clears [] (digit 1 ∷ unit 1 ∷ rest) [] ≡ true
        → clears [] (unit 1 ∷ rest) [] ≡ true
    short rest h = sym (clears-ten [] rest []) ∙ h

-- no written character is 两
digits_no_liang : (variant : ChineseVariant) (case : ChineseCase)
    → each_below (λ value. not (is_liang (digit_char variant case value))) 10 ≡ true
unfolding digit_char
digits_no_liang Traditional Upper = refl
digits_no_liang Traditional Lower = refl
digits_no_liang Simple Upper = refl
digits_no_liang Simple Lower = refl

units_no_liang : (variant : ChineseVariant) (case : ChineseCase)
    → each_below (λ rank. not (is_liang (unit_char variant case rank))) 16 ≡ true
unfolding unit_char
units_no_liang Traditional Upper = refl
units_no_liang Traditional Lower = refl
units_no_liang Simple Upper = refl
units_no_liang Simple Lower = refl

mark-no_liang : (variant : ChineseVariant) (case : ChineseCase) (mark : Mark)
    → is_printed mark ≡ true → not (is_liang (mark_char variant case mark)) ≡ true
mark-no_liang variant case (digit value) h =
    each_below-at (λ value. not (is_liang (digit_char variant case value))) 10 value
    (digits_no_liang variant case) (grind (arith, nat_tests, h))
mark-no_liang variant case (unit rank) h =
    each_below-at (λ rank. not (is_liang (unit_char variant case rank))) 16 rank
    (units_no_liang variant case) (grind (arith, nat_tests, h))
mark-no_liang variant case other h = cc

marks-no_liang : (variant : ChineseVariant) (case : ChineseCase) (marks : List Mark)
    → list_all is_printed marks ≡ true
    → list_all (λ c. not (is_liang c)) (map (mark_char variant case) marks) ≡ true
marks-no_liang variant case [] h = refl
marks-no_liang variant case (mark ∷ rest) h =
    both (not (is_liang (mark_char variant case mark))) _
    (mark-no_liang variant case mark (and-left (is_printed mark) (list_all is_printed rest) h))
    (marks-no_liang variant case rest (and-right (is_printed mark) (list_all is_printed rest) h))

-- a text without 两 whose marks are not misread is not misread
not-true : (b : Bool) → not b ≡ true → b ≡ false
not-true true h = cc
not-true false h = refl

pub clear-text : (front text : List ℕ) → clears (marks_of front) (marks_of text) [] ≡ true
    → list_all (λ c. not (is_liang c)) text ≡ true → misread_after front text ≡ None
clear-text front [] h l = refl
clear-text front (c ∷ after) h l =
    rw here (clear-text (c ∷ front) after
    (and-right (not (is_misread_mark (marks_of front) (mark_of c) (marks_of after ++ []))) _ h)
    (and-right (not (is_liang c)) _ l)) where
      mark : is_misread_mark (marks_of front) (mark_of c) (marks_of after) ≡ false
      mark = ap (is_misread_mark (marks_of front) (mark_of c)) (sym (append-nil (marks_of after)))
          ∙ not-true (is_misread_mark (marks_of front) (mark_of c) (marks_of after ++ []))
          (and-left (not (is_misread_mark (marks_of front) (mark_of c) (marks_of after ++ []))) _ h)

      here : is_misread_at front c after ≡ false
      here = ap₂ (λ m n. m || (n && weighs (marks_of front) (marks_of after))) mark
          (not-true (is_liang c) (and-left (not (is_liang c)) _ l))

-- the text of a magnitude
pub magnitude-clear : (variant : ChineseVariant) (case : ChineseCase) (method : ChineseCountMethod)
    (number : ℕ) → number < scale method 15 * scale method 15
    → first_misread (magnitude_text variant case method number) ≡ None
magnitude-clear variant case method number square =
    let printed = spelling-printed method number square in
    let back = IsReadBack-marks variant case (spelling method number) printed in
    clear-text [] (magnitude_text variant case method number)
    (ap (λ l. clears [] l []) back.marks_same ∙ spelling-clears method number square)
    (marks-no_liang variant case (spelling method number) printed)

pub magnitude-not_misread : (variant : ChineseVariant) (case : ChineseCase)
    (method : ChineseCountMethod) (number : ℕ) → number < 2 ^ 128
    → is_printable method (pos number) ≡ true
    → is_misread (magnitude_text variant case method number) ≡ false
magnitude-not_misread variant case method number small printable =
    ap is_some (magnitude-clear variant case method number
    (below_square method (pos number) small printable))

-- a text of digits alone, without 两, is not misread
digit-clear : (front after : List Mark) (value : ℕ) → list_all is_digit front ≡ true
    → is_misread_mark front (digit value) after ≡ false
digit-clear front after value h = digit-clear_of front after value (by front h) where
  by : (l : List Mark) → list_all is_digit l ≡ true → leaves_out_zero l (digit value) after ≡ false
  by [] e = refl
  by (digit v ∷ rest) e = refl
  by (unit r ∷ rest) e = cc
  by (other ∷ rest) e = cc

digits-clears : (front marks : List Mark) → list_all is_digit front ≡ true
    → list_all is_digit marks ≡ true → clears front marks [] ≡ true
digits-clears front [] f h = refl
digits-clears front (digit value ∷ rest) f h =
    both (not (is_misread_mark front (digit value) (rest ++ []))) _
    (ap not (digit-clear front (rest ++ []) value f)) (digits-clears (digit value ∷ front) rest f h)
digits-clears front (unit rank ∷ rest) f h = cc
digits-clears front (other ∷ rest) f h = cc

pub digits-not_misread : (text : List ℕ) → list_all is_digit (marks_of text) ≡ true
    → list_all (λ c. not (is_liang c)) text ≡ true → first_misread text ≡ None
digits-not_misread text h l = clear-text [] text (digits-clears [] (marks_of text) refl h) l
