-- The answer to a text without sign, from the answers to its parts.
use Rattle.std.proofs.Common.{◌≡◌, ℕ, suc, ◌+◌, ◌-◌, ◌*◌, ◌^◌, ◌<◌, ◌≤◌, Bool, true, false, nat_lt, ◌&&◌, List, [], ◌∷◌, length, take, drop, Option, Some, None, Result, Ok, Err, refl, sym, ap, ap₂, ◌∙◌, arith, length-take, if◌then◌else◌}
use Rattle.std.specs.Option.{option_map_or}
use Rattle.cn_core.specs.declared.method.ChineseCountMethod.{ChineseCountMethod}
use Rattle.cn_core.specs.Refusal.{Refusal, empty, incorrect_at, too_large, too_small}
use Rattle.cn_core.specs.Text.{text_of}
use Rattle.cn_core.proofs.Fronts.{and-left, and-right}
use Rattle.cn_judge.specs.Piece.{answer_at}
use Rattle.cn_quantity.specs.declared.number.Decimal.{Decimal}
use Rattle.cn_quantity.specs.declared.quantity.QuantityForm.{QuantityForm}
use Rattle.cn_quantity.specs.declared.ratio.Ratio.{Ratio}
use Rattle.cn_quantity.specs.Answer.{and_then, further_by}
use Rattle.cn_quantity.specs.Characters.{is_fen, is_zhi}
use Rattle.cn_quantity.specs.Number.{divisor_answer, number_answer, part_answer}
use Rattle.cn_quantity.specs.Private.{IsFront, SplitsAtBar, SplitsFraction}
use Rattle.cn_quantity.specs.Ratio.{after_bar, before_bar, begins_with_minus, form_of, form_over, fraction_answer, is_fraction, is_negated, mixed, negated_answer, ratio_answer, ratio_of, share, share_answer, simple_answer}
use Rattle.cn_quantity.proofs.Numbers.{divisor-within, number-low, part-low}
use Rattle.cn_quantity.proofs.Told.{told-end, told-front, told-goes_on, told-stops}

-- the answer to a number over a divisor does not name a place
ratio-told : (skipped : ℕ) (bytes : List ℕ) (divisor : ℕ) (form : QuantityForm)
    (decimal : Decimal)
    → ratio_of divisor form decimal ≡ answer_at skipped bytes (ratio_of divisor form decimal)
ratio-told skipped bytes divisor form decimal =
    by (nat_lt (divisor * 10 ^ decimal.decimals) (2 ^ 128)) where
      by : (b : Bool) → ◌≡◌ {A = Result Ratio Refusal} (if b
          then Ok (record {
            numerator = decimal.number;
            denominator = divisor * 10 ^ decimal.decimals;
            form = form;
          }) else Err too_large)
          (answer_at skipped bytes (if b
          then Ok (record {
            numerator = decimal.number;
            denominator = divisor * 10 ^ decimal.decimals;
            form = form;
          }) else Err too_large))
      by true = refl
      by false = refl

-- which text is a fraction, a percentage, or neither
pub a-fraction : (method : ChineseCountMethod) (text : List ℕ) → is_fraction text ≡ true
    → simple_answer method text
    ≡ fraction_answer method (before_bar text) (length (before_bar text) + 2) (after_bar text)
a-fraction method text e = rw e

pub a-share : (method : ChineseCountMethod) (text : List ℕ) (divisor : ℕ)
    → is_fraction text ≡ false → share text ≡ Some divisor
    → simple_answer method text ≡ share_answer method divisor text
a-share method text divisor e f = rw (e, f)

pub a-number : (method : ChineseCountMethod) (text : List ℕ) → is_fraction text ≡ false
    → share text ≡ None
    → simple_answer method text ≡ and_then (number_answer method text)
    (λ decimal. ratio_of 1 (form_of decimal.decimals) decimal)
a-number method text e f = rw (e, f)

-- something is before 分之
pub some-divisor : (text : List ℕ) → is_fraction text ≡ true → 0 < length (before_bar text)
some-divisor text h = by (before_bar text) h where
  by : (before : List ℕ)
      → (nat_lt 0 (length before) && nat_lt 0 (length (after_bar text))) ≡ true
      → 0 < length before
  by [] e = cc
  by (c ∷ rest) e = omega arith

-- the answers to the parts of a fraction, with places counted in the whole text
divisor-told : (method : ChineseCountMethod) (skipped index place : ℕ) (bytes divisor over : List ℕ)
    → SplitsFraction bytes divisor index place over
    → answer_at skipped divisor (divisor_answer method (text_of divisor))
    ≡ answer_at skipped bytes (divisor_answer method (text_of divisor))
divisor-told method skipped index place bytes divisor over s =
    told-front skipped bytes divisor (divisor_answer method (text_of divisor)) s.front
    (λ place h. divisor-within method (text_of divisor) place s.some h)

over-told : (method : ChineseCountMethod) (skipped index place : ℕ) (bytes divisor over : List ℕ)
    → SplitsFraction bytes divisor index place over
    → answer_at (skipped + index) over (part_answer method (text_of over))
    ≡ answer_at skipped bytes (further_by place (part_answer method (text_of over)))
over-told method skipped index place bytes divisor over s =
    told-end skipped bytes over index place (part_answer method (text_of over)) s.stands

-- the divisor is refused
pub fraction-stops : (method : ChineseCountMethod) (skipped index place : ℕ)
    (bytes divisor over : List ℕ) (refusal : Refusal)
    → SplitsFraction bytes divisor index place over
    → Err refusal ≡ answer_at skipped divisor (divisor_answer method (text_of divisor))
    → Err refusal
    ≡ answer_at skipped bytes (fraction_answer method (text_of divisor) place (text_of over))
fraction-stops method skipped index place bytes divisor over refusal s h =
    told-stops skipped bytes (divisor_answer method (text_of divisor)) _ refusal
    (h ∙ divisor-told method skipped index place bytes divisor over s)

-- the divisor is a number
fraction-by : (method : ChineseCountMethod) (skipped index place number : ℕ)
    (bytes divisor over : List ℕ) → SplitsFraction bytes divisor index place over
    → Ok number ≡ answer_at skipped divisor (divisor_answer method (text_of divisor))
    → fraction_answer method (text_of divisor) place (text_of over)
    ≡ and_then (further_by place (part_answer method (text_of over)))
    (λ decimal. ratio_of number (form_over number) decimal)
fraction-by method skipped index place number bytes divisor over s h =
    told-goes_on skipped bytes (divisor_answer method (text_of divisor)) _ number
    (h ∙ divisor-told method skipped index place bytes divisor over s)

-- the numerator is refused
pub fraction-stops_over : (method : ChineseCountMethod) (skipped index place number : ℕ)
    (bytes divisor over : List ℕ) (refusal : Refusal)
    → SplitsFraction bytes divisor index place over
    → Ok number ≡ answer_at skipped divisor (divisor_answer method (text_of divisor))
    → Err refusal ≡ answer_at (skipped + index) over (part_answer method (text_of over))
    → Err refusal
    ≡ answer_at skipped bytes (fraction_answer method (text_of divisor) place (text_of over))
fraction-stops_over method skipped index place number bytes divisor over refusal s h g =
    told-stops skipped bytes (further_by place (part_answer method (text_of over)))
    (λ decimal. ratio_of number (form_over number) decimal) refusal
    (g ∙ over-told method skipped index place bytes divisor over s)
    ∙ ap (answer_at skipped bytes)
    (sym (fraction-by method skipped index place number bytes divisor over s h))

-- both are numbers
pub fraction-goes_on : (method : ChineseCountMethod) (skipped index place number : ℕ)
    (bytes divisor over : List ℕ) (decimal : Decimal) (answer : Result Ratio Refusal)
    → SplitsFraction bytes divisor index place over
    → Ok number ≡ answer_at skipped divisor (divisor_answer method (text_of divisor))
    → Ok decimal ≡ answer_at (skipped + index) over (part_answer method (text_of over))
    → answer ≡ ratio_of number (form_over number) decimal
    → answer
    ≡ answer_at skipped bytes (fraction_answer method (text_of divisor) place (text_of over))
fraction-goes_on method skipped index place number bytes divisor over decimal answer s h g is =
    is ∙ ratio-told skipped bytes number (form_over number) decimal
    ∙ ap (answer_at skipped bytes)
    (sym (fraction-by method skipped index place number bytes divisor over s h
    ∙ told-goes_on skipped bytes (further_by place (part_answer method (text_of over)))
    (λ decimal. ratio_of number (form_over number) decimal) decimal
    (g ∙ over-told method skipped index place bytes divisor over s)))

-- the parts of a text at its first 分之
pub SplitsFraction-bar : (bytes divisor over : List ℕ) (index : ℕ)
    → is_fraction (text_of bytes) ≡ true → SplitsAtBar bytes divisor index over
    → SplitsFraction bytes divisor index (length (before_bar (text_of bytes)) + 2) over
SplitsFraction-bar bytes divisor over index e s = record {
  some = (let h = some-divisor (text_of bytes) e in rw s.divisor_is h);
  front = s.front;
  stands = s.stands;
}

pub fraction-is : (method : ChineseCountMethod) (skipped index : ℕ) (bytes divisor over : List ℕ)
    (answer : Result Ratio Refusal) → is_fraction (text_of bytes) ≡ true
    → SplitsAtBar bytes divisor index over
    → answer ≡ answer_at skipped bytes (fraction_answer method (text_of divisor)
    (length (before_bar (text_of bytes)) + 2) (text_of over))
    → answer ≡ answer_at skipped bytes (simple_answer method (text_of bytes))
fraction-is method skipped index bytes divisor over answer e s is =
    is
    ∙ ap₂ (λ d o. answer_at skipped bytes (fraction_answer method d
    (length (before_bar (text_of bytes)) + 2) o)) s.divisor_is s.behind_is
    ∙ ap (answer_at skipped bytes) (sym (a-fraction method (text_of bytes) e))

-- the answer to the text before a percent sign, with the place counted in the whole text
share-told : (method : ChineseCountMethod) (skipped : ℕ) (bytes before : List ℕ)
    → IsFront bytes before
    → text_of before ≡ take (length (text_of bytes) - 1) (text_of bytes)
    → answer_at skipped before (number_answer method (text_of before))
    ≡ answer_at skipped bytes
    (number_answer method (take (length (text_of bytes) - 1) (text_of bytes)))
share-told method skipped bytes before f is =
    told-front skipped bytes before (number_answer method (text_of before)) f
    (number-low method (text_of before))
    ∙ ap (λ l. answer_at skipped bytes (number_answer method l)) is

pub share-stops : (method : ChineseCountMethod) (skipped divisor : ℕ) (bytes before : List ℕ)
    (refusal : Refusal) → is_fraction (text_of bytes) ≡ false
    → share (text_of bytes) ≡ Some divisor → IsFront bytes before
    → text_of before ≡ take (length (text_of bytes) - 1) (text_of bytes)
    → Err refusal ≡ answer_at skipped before (number_answer method (text_of before))
    → Err refusal ≡ answer_at skipped bytes (simple_answer method (text_of bytes))
share-stops method skipped divisor bytes before refusal e p f is h =
    told-stops skipped bytes
    (number_answer method (take (length (text_of bytes) - 1) (text_of bytes)))
    (λ decimal. ratio_of divisor (form_over divisor) decimal) refusal
    (h ∙ share-told method skipped bytes before f is)
    ∙ ap (answer_at skipped bytes) (sym (a-share method (text_of bytes) divisor e p))

pub share-goes_on : (method : ChineseCountMethod) (skipped divisor : ℕ) (bytes before : List ℕ)
    (decimal : Decimal) (answer : Result Ratio Refusal) → is_fraction (text_of bytes) ≡ false
    → share (text_of bytes) ≡ Some divisor → IsFront bytes before
    → text_of before ≡ take (length (text_of bytes) - 1) (text_of bytes)
    → Ok decimal ≡ answer_at skipped before (number_answer method (text_of before))
    → answer ≡ ratio_of divisor (form_over divisor) decimal
    → answer ≡ answer_at skipped bytes (simple_answer method (text_of bytes))
share-goes_on method skipped divisor bytes before decimal answer e p f front h is =
    is ∙ ratio-told skipped bytes divisor (form_over divisor) decimal
    ∙ ap (answer_at skipped bytes) (sym (a-share method (text_of bytes) divisor e p
    ∙ told-goes_on skipped bytes
    (number_answer method (take (length (text_of bytes) - 1) (text_of bytes)))
    (λ decimal. ratio_of divisor (form_over divisor) decimal) decimal
    (h ∙ share-told method skipped bytes before f front)))

-- a number by itself
pub number-stops : (method : ChineseCountMethod) (skipped : ℕ) (bytes : List ℕ)
    (refusal : Refusal) → is_fraction (text_of bytes) ≡ false
    → share (text_of bytes) ≡ None
    → Err refusal ≡ answer_at skipped bytes (number_answer method (text_of bytes))
    → Err refusal ≡ answer_at skipped bytes (simple_answer method (text_of bytes))
number-stops method skipped bytes refusal e p h =
    told-stops skipped bytes (number_answer method (text_of bytes))
    (λ decimal. ratio_of 1 (form_of decimal.decimals) decimal) refusal h
    ∙ ap (answer_at skipped bytes) (sym (a-number method (text_of bytes) e p))

pub number-goes_on : (method : ChineseCountMethod) (skipped : ℕ) (bytes : List ℕ)
    (decimal : Decimal) (answer : Result Ratio Refusal) → is_fraction (text_of bytes) ≡ false
    → share (text_of bytes) ≡ None
    → Ok decimal ≡ answer_at skipped bytes (number_answer method (text_of bytes))
    → answer ≡ ratio_of 1 (form_of decimal.decimals) decimal
    → answer ≡ answer_at skipped bytes (simple_answer method (text_of bytes))
number-goes_on method skipped bytes decimal answer e p h is =
    is ∙ ratio-told skipped bytes 1 (form_of decimal.decimals) decimal
    ∙ ap (answer_at skipped bytes) (sym (a-number method (text_of bytes) e p
    ∙ told-goes_on skipped bytes (number_answer method (text_of bytes))
    (λ decimal. ratio_of 1 (form_of decimal.decimals) decimal) decimal h))

-- the text before 分之, its two characters, and the text after it
pub bar-lengths : (text : List ℕ) → 0 < length (after_bar text)
    → length (before_bar text) + 2 + length (after_bar text) ≡ length text
bar-lengths [] some = absurd (omega (arith, some))
bar-lengths (c ∷ []) some = absurd (omega (arith, some))
bar-lengths (c ∷ next ∷ rest) some =
    by (is_fen c) (is_zhi next) some (bar-lengths (next ∷ rest)) where
      by : (a b : Bool) → 0 < length (if a && b then rest else after_bar (next ∷ rest))
          → (0 < length (after_bar (next ∷ rest))
          → length (before_bar (next ∷ rest)) + 2 + length (after_bar (next ∷ rest))
          ≡ length (next ∷ rest))
          → length (if a && b then [] else c ∷ before_bar (next ∷ rest)) + 2
          + length (if a && b then rest else after_bar (next ∷ rest)) ≡ suc (suc (length rest))
      by true true some ih = omega arith
      by true false some ih = let h = ih some in omega (arith, h)
      by false b some ih = let h = ih some in omega (arith, h)

ratio-placeless : (divisor : ℕ) (form : QuantityForm) (decimal : Decimal) (place : ℕ)
    → ratio_of divisor form decimal ≡ Err (incorrect_at place) → ⊥
ratio-placeless divisor form decimal place h =
    by (nat_lt (divisor * 10 ^ decimal.decimals) (2 ^ 128)) h where
      by : (b : Bool) → ◌≡◌ {A = Result Ratio Refusal} (if b
          then Ok (record {
            numerator = decimal.number;
            denominator = divisor * 10 ^ decimal.decimals;
            form = form;
          }) else Err too_large)
          (Err (incorrect_at place)) → ⊥
      by true e = cc
      by false e = cc

-- the first answer is the refusal, since the next one does not name a place
over-refused : (first : Result Decimal Refusal) (divisor : ℕ) (form : Decimal → QuantityForm)
    (place : ℕ)
    → and_then first (λ decimal. ratio_of divisor (form decimal) decimal)
    ≡ Err (incorrect_at place) → first ≡ Err (incorrect_at place)
over-refused (Ok decimal) divisor form place h =
    absurd (ratio-placeless divisor (form decimal) decimal place h)
over-refused (Err refusal) divisor form place h = cc

further-low : {T : Type 0} (answer : Result T Refusal) (count place bound : ℕ)
    → ((p : ℕ) → answer ≡ Err (incorrect_at p) → p < bound)
    → further_by count answer ≡ Err (incorrect_at place) → place < bound + count
further-low (Ok value) count place bound low h = cc
further-low (Err empty) count place bound low h = cc
further-low (Err too_large) count place bound low h = cc
further-low (Err too_small) count place bound low h = cc
further-low (Err (incorrect_at p)) count place bound low h =
    let same : p + count ≡ place = cc in let l = low p refl in omega (arith, l, same)

fraction-low : (method : ChineseCountMethod) (before over : List ℕ) (index place : ℕ)
    → 0 < length before → length before ≤ index
    → fraction_answer method before index over ≡ Err (incorrect_at place)
    → place < index + length over
fraction-low method before over index place some within h = by (divisor_answer method before) refl h
  where
    by : (divisor : Result ℕ Refusal) → divisor_answer method before ≡ divisor
        → and_then divisor (λ divisor.
        and_then (further_by index (part_answer method over))
        (λ decimal. ratio_of divisor (form_over divisor) decimal)) ≡ Err (incorrect_at place)
        → place < index + length over
    by (Ok divisor) is e =
        let first = over-refused (further_by index (part_answer method over))
        divisor (λ decimal. form_over divisor) place e in
        let low = further-low (part_answer method over) index place (length over)
        (part-low method over) first in
        omega (arith, low)
    by (Err refusal) is e =
        let same : refusal ≡ incorrect_at place = cc in
        let low = divisor-within method before place some (is ∙ ap Err same) in
        omega (arith, low, within)

pub some-over : (text : List ℕ) → is_fraction text ≡ true → 0 < length (after_bar text)
some-over text fraction = by (nat_lt 0 (length (before_bar text))) (after_bar text) fraction where
  by : (b : Bool) (after : List ℕ) → (b && nat_lt 0 (length after)) ≡ true → 0 < length after
  by true [] e = cc
  by false [] e = cc
  by b (c ∷ rest) e = omega arith

-- the text after a minus sign that is after 分之
pub minus-length : (after : List ℕ) → begins_with_minus after ≡ true
    → length (drop 1 after) + 1 ≡ length after
minus-length [] h = cc
minus-length (c ∷ rest) h = omega arith

pub negated-low : (method : ChineseCountMethod) (text : List ℕ) (place : ℕ)
    → is_negated text ≡ true → negated_answer method text ≡ Err (incorrect_at place)
    → place < length text
negated-low method text place is h =
    let fraction = and-left (is_fraction text) (begins_with_minus (after_bar text)) is in
    let minus = minus-length (after_bar text)
    (and-right (is_fraction text) (begins_with_minus (after_bar text)) is) in
    let all = bar-lengths text (some-over text fraction) in
    let low = fraction-low method (before_bar text) (drop 1 (after_bar text))
    (length (before_bar text) + 3) place (some-divisor text fraction) (omega arith) h in
    omega (arith, low, minus, all)

-- a refusal of a text without sign points into it
pub simple-low : (method : ChineseCountMethod) (text : List ℕ) (place : ℕ)
    → simple_answer method text ≡ Err (incorrect_at place) → place < length text
simple-low method text place h = by (is_fraction text) (share text) refl h where
  by : (a : Bool) (b : Option ℕ) → is_fraction text ≡ a
      → (if a
      then fraction_answer method (before_bar text) (length (before_bar text) + 2) (after_bar text)
      else option_map_or (λ divisor. share_answer method divisor text) b
      (and_then (number_answer method text)
      (λ decimal. ratio_of 1 (form_of decimal.decimals) decimal))) ≡ Err (incorrect_at place)
      → place < length text
  by true b e h =
      let all = bar-lengths text (some-over text e) in
      let low = fraction-low method (before_bar text) (after_bar text)
      (length (before_bar text) + 2) place (some-divisor text e) (omega arith) h in
      omega (arith, low, all)
  by false (Some divisor) e h =
      let first = over-refused (number_answer method (take (length text - 1) text)) divisor
      (λ decimal. form_over divisor) place h in
      let low = number-low method (take (length text - 1) text) place first in
      omega (arith, low, length-take (length text - 1) text)
  by false None e h =
      number-low method text place
      (over-refused (number_answer method text) 1 (λ decimal. form_of decimal.decimals) place h)

-- a mixed fraction, or another text
pub mixed-is : (method : ChineseCountMethod) (skipped : ℕ) (bytes : List ℕ) (ratio : Ratio)
    → Some ratio ≡ mixed method (text_of bytes)
    → Ok ratio ≡ answer_at skipped bytes (ratio_answer method (text_of bytes))
mixed-is method skipped bytes ratio is =
    ap (λ o. answer_at skipped bytes (option_map_or (λ r. Ok r) o
    (simple_answer method (text_of bytes)))) is

pub simple-is : (method : ChineseCountMethod) (text : List ℕ) → mixed method text ≡ None
    → ratio_answer method text ≡ simple_answer method text
simple-is method text none =
    ap (λ o. option_map_or (λ r. Ok r) o (simple_answer method text)) none

pub ratio-low : (method : ChineseCountMethod) (text : List ℕ) (place : ℕ)
    → ratio_answer method text ≡ Err (incorrect_at place) → place < length text
ratio-low method text place h = by (mixed method text) h where
  by : (o : Option Ratio) → option_map_or (λ r. Ok r) o (simple_answer method text)
      ≡ Err (incorrect_at place) → place < length text
  by (Some ratio) e = cc
  by None e = simple-low method text place e
