-- The answers to a whole number and to a number, from the answers to their parts.
use Rattle.std.proofs.Common.{◌≡◌, ℕ, suc, ◌+◌, ◌<◌, ◌≤◌, Bool, true, false, nat_lt, ◌&&◌, List, [], ◌∷◌, length, Option, Some, None, Result, Ok, Err, refl, sym, ap, ◌∙◌, arith, if◌then◌else◌}
use Rattle.std.specs.Option.{option_map_or}
use Rattle.cn_core.specs.declared.method.ChineseCountMethod.{ChineseCountMethod}
use Rattle.cn_core.specs.Refusal.{Refusal, empty, incorrect_at, too_large, too_small}
use Rattle.cn_core.specs.Text.{text_of}
use Rattle.std.specs.Char.{is_whitespace}
use Rattle.cn_judge.specs.Piece.{StandsAt, answer_at}
use Rattle.cn_judge.proofs.Pieces.{char_index-at}
use Rattle.cn_quantity.specs.declared.characters.DigitKind.TheVariants.{Chinese, Figure}
use Rattle.cn_quantity.specs.declared.number.Decimal.{Decimal}
use Rattle.cn_quantity.specs.Answer.{and_then}
use Rattle.cn_quantity.specs.Characters.{is_point}
use Rattle.cn_quantity.specs.Decimal.{after_point, before_point, decimals_behind_point, is_chinese_decimal}
use Rattle.cn_quantity.specs.Digits.{read_with_units}
use Rattle.cn_quantity.specs.Figures.{decimals_in_figures, is_in_figures}
use Rattle.cn_quantity.specs.Number.{chinese_decimal_answer, decimal_of, divisor_answer, is_divisor, number_answer, or_shaped, part_answer, shaped_number, short_tens, whole_number_answer}
use Rattle.cn_quantity.specs.Private.{SplitsAtPoint}
use Rattle.cn_quantity.specs.Turns.{by_turns}
use Rattle.cn_quantity.specs.Units.{are_rising_units, times_units}
use Rattle.cn_quantity.specs.WholeNumber.{whole_answer}
use Rattle.cn_quantity.proofs.WholeNumbers.{whole-low}
use Rattle.cn_quantity.proofs.Told.{told-front, told-stops, told-goes_on}

-- the answer to a number that fits or does not fit does not name a place
pub decimal-told : (skipped : ℕ) (bytes : List ℕ) (decimals : ℕ) (number : Option ℕ)
    → decimal_of decimals number ≡ answer_at skipped bytes (decimal_of decimals number)
decimal-told skipped bytes decimals (Some number) = refl
decimal-told skipped bytes decimals None = refl

pub decimal-placeless : (decimals : ℕ) (number : Option ℕ) (place : ℕ)
    → decimal_of decimals number ≡ Err (incorrect_at place) → ⊥
decimal-placeless decimals (Some number) place h = cc
decimal-placeless decimals None place h = cc

-- the first answer is the refusal, since the next one does not name a place
pub first-refused : (first : Result ℕ Refusal) (decimals : ℕ) (next : ℕ → Option ℕ) (place : ℕ)
    → and_then first (λ whole. decimal_of decimals (next whole)) ≡ Err (incorrect_at place)
    → first ≡ Err (incorrect_at place)
first-refused (Ok whole) decimals next place h =
    absurd (decimal-placeless decimals (next whole) place h)
first-refused (Err refusal) decimals next place h = cc

-- which kind of number a text is
pub in-figures : (method : ChineseCountMethod) (text : List ℕ) → is_in_figures text ≡ true
    → shaped_number method text
    ≡ decimal_of (decimals_in_figures text) (read_with_units method Figure 0 text)
in-figures method text e = rw e

pub a-turned : (method : ChineseCountMethod) (text : List ℕ) (number : ℕ)
    → is_in_figures text ≡ false → by_turns method text ≡ Some number
    → shaped_number method text ≡ decimal_of 0 (Some number)
a-turned method text number e t = rw (e, t)

pub a-decimal : (method : ChineseCountMethod) (text : List ℕ) → is_in_figures text ≡ false
    → by_turns method text ≡ None → is_chinese_decimal text ≡ true
    → shaped_number method text ≡ chinese_decimal_answer method text
a-decimal method text e t f = rw (e, t, f)

pub a-whole : (method : ChineseCountMethod) (text : List ℕ) → is_in_figures text ≡ false
    → by_turns method text ≡ None → is_chinese_decimal text ≡ false
    → shaped_number method text ≡ whole_number_answer method text
a-whole method text e t f = rw (e, t, f)

pub not-true : (b : Bool) → ¬ (b ≡ true) → b ≡ false
not-true true h = absurd (h refl)
not-true false h = refl

-- a number in figures
pub figures-told : (method : ChineseCountMethod) (skipped : ℕ) (bytes : List ℕ)
    (answer : Result Decimal Refusal) → is_in_figures (text_of bytes) ≡ true
    → answer ≡ decimal_of (decimals_in_figures (text_of bytes))
    (read_with_units method Figure 0 (text_of bytes))
    → answer ≡ answer_at skipped bytes (shaped_number method (text_of bytes))
figures-told method skipped bytes answer e is =
    is ∙ decimal-told skipped bytes _ _
    ∙ ap (answer_at skipped bytes) (sym (in-figures method (text_of bytes) e))

-- a number by turns
pub turned-told : (method : ChineseCountMethod) (skipped number : ℕ) (bytes : List ℕ)
    (answer : Result Decimal Refusal) → is_in_figures (text_of bytes) ≡ false
    → Some number ≡ by_turns method (text_of bytes) → answer ≡ decimal_of 0 (Some number)
    → answer ≡ answer_at skipped bytes (shaped_number method (text_of bytes))
turned-told method skipped number bytes answer e t is =
    is ∙ decimal-told skipped bytes 0 (Some number)
    ∙ ap (answer_at skipped bytes) (sym (a-turned method (text_of bytes) number e (sym t)))

-- the answer to the text before a point, with the place counted in the whole text
told-before : (method : ChineseCountMethod) (skipped : ℕ) (bytes before behind : List ℕ)
    → SplitsAtPoint bytes before behind
    → answer_at skipped before (whole_answer method (text_of before))
    ≡ answer_at skipped bytes (whole_answer method (before_point (text_of bytes)))
told-before method skipped bytes before behind s =
    told-front skipped bytes before (whole_answer method (text_of before)) s.front
    (whole-low method (text_of before))
    ∙ ap (λ l. answer_at skipped bytes (whole_answer method l)) s.before_is

-- a Chinese decimal, whose whole part is refused
pub decimal-stops : (method : ChineseCountMethod) (skipped : ℕ) (bytes before behind : List ℕ)
    (refusal : Refusal) → is_in_figures (text_of bytes) ≡ false
    → by_turns method (text_of bytes) ≡ None → is_chinese_decimal (text_of bytes) ≡ true
    → SplitsAtPoint bytes before behind
    → Err refusal ≡ answer_at skipped before (whole_answer method (text_of before))
    → Err refusal ≡ answer_at skipped bytes (shaped_number method (text_of bytes))
decimal-stops method skipped bytes before behind refusal e t f s h =
    told-stops skipped bytes (whole_answer method (before_point (text_of bytes))) _ refusal
    (h ∙ told-before method skipped bytes before behind s)
    ∙ ap (answer_at skipped bytes) (sym (a-decimal method (text_of bytes) e t f))

-- a Chinese decimal whose whole part is a number
pub decimal-goes_on : (method : ChineseCountMethod) (skipped decimals whole : ℕ)
    (bytes before behind : List ℕ) (answer : Result Decimal Refusal)
    → is_in_figures (text_of bytes) ≡ false
    → by_turns method (text_of bytes) ≡ None → is_chinese_decimal (text_of bytes) ≡ true
    → SplitsAtPoint bytes before behind
    → Ok whole ≡ answer_at skipped before (whole_answer method (text_of before))
    → decimals ≡ decimals_behind_point (text_of bytes)
    → answer ≡ decimal_of decimals (read_with_units method Chinese whole (text_of behind))
    → answer ≡ answer_at skipped bytes (shaped_number method (text_of bytes))
decimal-goes_on method skipped decimals whole bytes before behind answer e t f s h d is =
    is ∙ ap (λ l. decimal_of decimals (read_with_units method Chinese whole l)) s.behind_is
    ∙ ap (λ n. decimal_of n (read_with_units method Chinese whole (after_point (text_of bytes)))) d
    ∙ decimal-told skipped bytes (decimals_behind_point (text_of bytes))
    (read_with_units method Chinese whole (after_point (text_of bytes)))
    ∙ ap (answer_at skipped bytes) (sym (a-decimal method (text_of bytes) e t f
    ∙ told-goes_on skipped bytes (whole_answer method (before_point (text_of bytes))) _ whole
    (h ∙ told-before method skipped bytes before behind s)))

-- 廿 or 卅
pub tens-told : (method : ChineseCountMethod) (skipped number : ℕ) (bytes : List ℕ)
    (answer : Result Decimal Refusal)
    → is_in_figures (text_of bytes) ≡ false
    → by_turns method (text_of bytes) ≡ None → is_chinese_decimal (text_of bytes) ≡ false
    → Some number ≡ short_tens (text_of bytes) → answer ≡ decimal_of 0 (Some number)
    → answer ≡ answer_at skipped bytes (shaped_number method (text_of bytes))
tens-told method skipped number bytes answer e t f tens is =
    is ∙ ap (answer_at skipped bytes) (sym (a-whole method (text_of bytes) e t f
    ∙ ap (λ t. option_map_or (λ number. decimal_of 0 (Some number)) t
    (and_then (whole_answer method (text_of bytes)) (λ whole. decimal_of 0 (Some whole))))
    (sym tens)))

-- a whole number
pub whole-alone : (method : ChineseCountMethod) (text : List ℕ)
    → is_in_figures text ≡ false → by_turns method text ≡ None → is_chinese_decimal text ≡ false
    → short_tens text ≡ None
    → shaped_number method text
    ≡ and_then (whole_answer method text) (λ whole. decimal_of 0 (Some whole))
whole-alone method text e t f none = a-whole method text e t f ∙ rw none

pub whole-stops : (method : ChineseCountMethod) (skipped : ℕ) (bytes : List ℕ) (refusal : Refusal)
    → is_in_figures (text_of bytes) ≡ false
    → by_turns method (text_of bytes) ≡ None → is_chinese_decimal (text_of bytes) ≡ false
    → short_tens (text_of bytes) ≡ None
    → Err refusal ≡ answer_at skipped bytes (whole_answer method (text_of bytes))
    → Err refusal ≡ answer_at skipped bytes (shaped_number method (text_of bytes))
whole-stops method skipped bytes refusal e t f none h =
    told-stops skipped bytes (whole_answer method (text_of bytes)) _ refusal h
    ∙ ap (answer_at skipped bytes) (sym (whole-alone method (text_of bytes) e t f none))

pub whole-goes_on : (method : ChineseCountMethod) (skipped whole : ℕ) (bytes : List ℕ)
    (answer : Result Decimal Refusal)
    → is_in_figures (text_of bytes) ≡ false
    → by_turns method (text_of bytes) ≡ None → is_chinese_decimal (text_of bytes) ≡ false
    → short_tens (text_of bytes) ≡ None
    → Ok whole ≡ answer_at skipped bytes (whole_answer method (text_of bytes))
    → answer ≡ decimal_of 0 (Some whole)
    → answer ≡ answer_at skipped bytes (shaped_number method (text_of bytes))
whole-goes_on method skipped whole bytes answer e t f none h is =
    is ∙ ap (answer_at skipped bytes) (sym (whole-alone method (text_of bytes) e t f none
    ∙ told-goes_on skipped bytes (whole_answer method (text_of bytes)) _ whole h))

before-shorter : (text : List ℕ) → length (before_point text) ≤ length text
before-shorter [] = omega arith
before-shorter (c ∷ rest) = by (is_point Chinese c) (before-shorter rest) where
  by : (b : Bool) → length (before_point rest) ≤ length rest
      → length (if b then [] else c ∷ before_point rest) ≤ suc (length rest)
  by true ih = omega arith
  by false ih = omega (arith, ih)

shaped-low : (method : ChineseCountMethod) (text : List ℕ) (place : ℕ)
    → shaped_number method text ≡ Err (incorrect_at place) → place < length text
shaped-low method text place h = by (is_in_figures text) (by_turns method text) (is_chinese_decimal text) refl refl refl where
  alone : (t : Option ℕ) → option_map_or (λ number. decimal_of 0 (Some number)) t
      (and_then (whole_answer method text) (λ whole. decimal_of 0 (Some whole)))
      ≡ Err (incorrect_at place) → place < length text
  alone (Some number) e = cc
  alone None e =
      whole-low method text place
      (first-refused (whole_answer method text) 0 (λ whole. Some whole) place e)

  by : (a : Bool) (o : Option ℕ) (b : Bool) → is_in_figures text ≡ a
      → by_turns method text ≡ o → is_chinese_decimal text ≡ b → place < length text
  by true o b e t f = absurd (decimal-placeless _ _ place (sym (in-figures method text e) ∙ h))
  by false (Some number) b e t f =
      absurd (decimal-placeless 0 (Some number) place (sym (a-turned method text number e t) ∙ h))
  by false None true e t f =
      let first = first-refused (whole_answer method (before_point text))
      (decimals_behind_point text)
      (λ whole. read_with_units method Chinese whole (after_point text)) place
      (sym (a-decimal method text e t f) ∙ h) in
      let low = whole-low method (before_point text) place first in
      omega (arith, low, before-shorter text)
  by false None false e t f = alone (short_tens text) (sym (a-whole method text e t f) ∙ h)

-- a refusal of a number points into its text
pub number-low : (method : ChineseCountMethod) (text : List ℕ) (place : ℕ)
    → number_answer method text ≡ Err (incorrect_at place) → place < length text
number-low method text place h = by (whole_answer method text) h where
  by : (first : Result ℕ Refusal) → or_shaped first (shaped_number method text)
      ≡ Err (incorrect_at place) → place < length text
  by (Ok number) e = cc
  by (Err refusal) e = shaped-low method text place e

-- a whole number, with the place counted in the whole text, and any other answer
pub whole-first : (skipped : ℕ) (bytes : List ℕ) (first : Result ℕ Refusal)
    (shaped answer : Result Decimal Refusal) (number : ℕ)
    → Ok number ≡ answer_at skipped bytes first → answer ≡ decimal_of 0 (Some number)
    → answer ≡ answer_at skipped bytes (or_shaped first shaped)
whole-first skipped bytes (Ok n) shaped answer number h is =
    let same : number ≡ n = cc in rw (← same) is
whole-first skipped bytes (Err empty) shaped answer number h is = cc
whole-first skipped bytes (Err too_large) shaped answer number h is = cc
whole-first skipped bytes (Err too_small) shaped answer number h is = cc
whole-first skipped bytes (Err (incorrect_at p)) shaped answer number h is = cc

pub shaped-else : (skipped : ℕ) (bytes : List ℕ) (first : Result ℕ Refusal)
    (shaped answer : Result Decimal Refusal) (refusal : Refusal)
    → Err refusal ≡ answer_at skipped bytes first → answer ≡ answer_at skipped bytes shaped
    → answer ≡ answer_at skipped bytes (or_shaped first shaped)
shaped-else skipped bytes (Ok n) shaped answer refusal h is = cc
shaped-else skipped bytes (Err r) shaped answer refusal h is = is

pub part-low : (method : ChineseCountMethod) (text : List ℕ) (place : ℕ)
    → part_answer method text ≡ Err (incorrect_at place) → place < length text
part-low method text place h = by (nat_lt 0 (length text) && are_rising_units text) h where
  by : (b : Bool)
      → (if b then decimal_of 0 (times_units method 1 text) else number_answer method text)
      ≡ Err (incorrect_at place) → place < length text
  by true e = absurd (decimal-placeless 0 (times_units method 1 text) place e)
  by false e = number-low method text place e

-- the same for a divisor, if there is one
divisor-low : (method : ChineseCountMethod) (c : ℕ) (rest : List ℕ) (place : ℕ)
    → divisor_answer method (c ∷ rest) ≡ Err (incorrect_at place) → place < length (c ∷ rest)
divisor-low method c rest place h = by (part_answer method (c ∷ rest)) refl h where
  which : (b : Bool) (number : ℕ) → (if b then Ok number else Err (incorrect_at 0))
      ≡ Err (incorrect_at place) → place < suc (length rest)
  which true number e = cc
  which false number e = let zero_is : 0 ≡ place = cc in omega (arith, zero_is)

  by : (part : Result Decimal Refusal) → part_answer method (c ∷ rest) ≡ part
      → and_then part (λ decimal. if is_divisor decimal then Ok decimal.number
      else Err (incorrect_at 0)) ≡ Err (incorrect_at place) → place < suc (length rest)
  by (Ok decimal) is e = which (is_divisor decimal) decimal.number e
  by (Err refusal) is e =
      let same : refusal ≡ incorrect_at place = cc in
      part-low method (c ∷ rest) place (is ∙ ap Err same)

pub divisor-within : (method : ChineseCountMethod) (text : List ℕ) (place : ℕ) → 0 < length text
    → divisor_answer method text ≡ Err (incorrect_at place) → place < length text
divisor-within method [] place some h = absurd (omega (arith, some))
divisor-within method (c ∷ rest) place some h = divisor-low method c rest place h

-- the answer to a divisor, from the answer to a part
pub divisor-empty : (method : ChineseCountMethod) (skipped : ℕ) (bytes : List ℕ)
    → text_of bytes ≡ []
    → Err empty ≡ answer_at skipped bytes (divisor_answer method (text_of bytes))
divisor-empty method skipped bytes none = rw none

divisor-by : (method : ChineseCountMethod) (skipped : ℕ) (bytes : List ℕ) (decimal : Decimal)
    → Ok decimal ≡ answer_at skipped bytes (part_answer method (text_of bytes))
    → divisor_answer method (text_of bytes)
    ≡ (if is_divisor decimal then Ok decimal.number else Err (incorrect_at 0))
divisor-by method skipped bytes decimal h =
    told-goes_on skipped bytes (part_answer method (text_of bytes))
    (λ decimal. if is_divisor decimal then Ok decimal.number else Err (incorrect_at 0)) decimal h

pub divisor-goes_on : (method : ChineseCountMethod) (skipped : ℕ) (bytes : List ℕ)
    (decimal : Decimal)
    → Ok decimal ≡ answer_at skipped bytes (part_answer method (text_of bytes))
    → is_divisor decimal ≡ true
    → Ok decimal.number ≡ answer_at skipped bytes (divisor_answer method (text_of bytes))
divisor-goes_on method skipped bytes decimal h above =
    ap (answer_at skipped bytes)
    (ap (λ b. if b then Ok decimal.number else Err (incorrect_at 0)) (sym above))
    ∙ ap (answer_at skipped bytes) (sym (divisor-by method skipped bytes decimal h))

pub divisor-none : (method : ChineseCountMethod) (skipped index c : ℕ) (bytes rest : List ℕ)
    (decimal : Decimal) → StandsAt bytes (c ∷ rest) index 0 → is_whitespace c ≡ false
    → Ok decimal ≡ answer_at skipped bytes (part_answer method (text_of bytes))
    → is_divisor decimal ≡ false
    → Err (incorrect_at (skipped + index))
    ≡ answer_at skipped bytes (divisor_answer method (text_of bytes))
divisor-none method skipped index c bytes rest decimal at dark h none =
    ap (λ n. Err (incorrect_at (skipped + n))) (sym (char_index-at bytes rest c index 0 at dark))
    ∙ ap (answer_at skipped bytes)
    (ap (λ b. if b then Ok decimal.number else Err (incorrect_at 0)) (sym none))
    ∙ ap (answer_at skipped bytes) (sym (divisor-by method skipped bytes decimal h))
