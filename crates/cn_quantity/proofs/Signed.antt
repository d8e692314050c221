-- The answer to a string, from the answer to what follows its sign.
use Rattle.std.proofs.Common.{◌≡◌, ℕ, ◌+◌, ◌<◌, ℤ, int_lt, Bool, true, false, ◌&&◌, is_none, is_some, not, suc, ◌≤◌, List, [], ◌∷◌, length, chars, drop, Option, Some, None, Result, Ok, Err, refl, sym, ap, ap₂, ◌∙◌, arith, length-drop, if◌then◌else◌}
use Rattle.cn_core.specs.declared.method.ChineseCountMethod.{ChineseCountMethod}
use Rattle.cn_core.specs.declared.sign.Sign.{Sign}
use Rattle.cn_core.specs.declared.sign.Sign.TheVariants.{Plus, Minus}
use Rattle.cn_core.specs.CharIndex.{char_index_of}
use Rattle.cn_core.specs.Reading.{is_minus, sign_len, too_far}
use Rattle.cn_core.specs.Refusal.{Refusal, empty, incorrect_at, too_large, too_small}
use Rattle.cn_core.specs.Text.{text_of}
use Rattle.cn_core.specs.Whole.{signed_kind, signed_number}
use Rattle.cn_core.proofs.Fronts.{both}
use Rattle.cn_core.specs.FigureCharacters.{figure_of, is_currency}
use Rattle.cn_quantity.specs.Characters.{sign_of}
use Rattle.cn_judge.specs.Piece.{StandsAt, answer_at}
use Rattle.cn_judge.proofs.Pieces.{char_index-rest, text_of-rest}
use Rattle.cn_quantity.specs.declared.quantity.Quantity.{Quantity}
use Rattle.cn_quantity.specs.declared.ratio.Ratio.{Ratio}
use Rattle.cn_quantity.specs.Answer.{and_then}
use Rattle.cn_quantity.specs.Private.{SplitsNegated, signed_by}
use Rattle.cn_quantity.specs.Ratio.{before_bar, fraction_answer, is_negated, negated_answer, ratio_answer}
use Rattle.cn_quantity.proofs.Ratios.{negated-low, ratio-low}
use Rattle.cn_quantity.specs.Reading.{front_length, is_below_zero, number_sign, quantity_answer, sign_length, signed_answer, signed_ratio, yen_length}

signed-rest : (bytes rest : List ℕ) (skipped place : ℕ) (sign : Option Sign)
    (answer : Result Ratio Refusal) → StandsAt bytes (chars rest) skipped place
    → signed_by sign (answer_at skipped rest answer) ≡ signed_answer bytes sign place answer
signed-rest bytes rest skipped place sign (Ok ratio) at = refl
signed-rest bytes rest skipped place sign (Err empty) at = refl
signed-rest bytes rest skipped place sign (Err too_large) at = refl
signed-rest bytes rest skipped place sign (Err too_small) at = refl
signed-rest bytes rest skipped place sign (Err (incorrect_at p)) at =
    ap (λ n. Err (incorrect_at n)) (sym (char_index-rest bytes rest skipped place p at))

-- the answer to a text with no minus sign after 分之, and to one with such a sign
pub quantity-plain : (method : ChineseCountMethod) (bytes : List ℕ)
    → (is_none (number_sign (text_of bytes))
    && is_negated (drop (front_length (text_of bytes)) (text_of bytes))) ≡ false
    → quantity_answer method bytes
    ≡ signed_answer bytes (number_sign (text_of bytes)) (front_length (text_of bytes))
    (ratio_answer method (drop (front_length (text_of bytes)) (text_of bytes)))
quantity-plain method bytes none = rw none

pub quantity-negated : (method : ChineseCountMethod) (bytes : List ℕ)
    → (is_none (number_sign (text_of bytes))
    && is_negated (drop (front_length (text_of bytes)) (text_of bytes))) ≡ true
    → quantity_answer method bytes
    ≡ signed_answer bytes (Some Minus) (front_length (text_of bytes))
    (negated_answer method (drop (front_length (text_of bytes)) (text_of bytes)))
quantity-negated method bytes some = rw some

-- the same, by the text after the sign
pub signed-plain : (method : ChineseCountMethod) (bytes rest : List ℕ) (skipped : ℕ)
    (sign : Option Sign) (answer : Result Quantity Refusal) (ratio : Result Ratio Refusal)
    → sign ≡ number_sign (text_of bytes)
    → StandsAt bytes (chars rest) skipped (front_length (text_of bytes))
    → (is_none sign && is_negated (text_of rest)) ≡ false
    → ratio ≡ answer_at skipped rest (ratio_answer method (text_of rest))
    → answer ≡ signed_by sign ratio → answer ≡ quantity_answer method bytes
signed-plain method bytes rest skipped sign answer ratio leads at none h is =
    let front = front_length (text_of bytes) in
    let same : drop (front_length (text_of bytes)) (text_of bytes) ≡ text_of rest =
    text_of-rest bytes rest skipped front at in
    is ∙ ap (signed_by sign) h
    ∙ signed-rest bytes rest skipped front sign (ratio_answer method (text_of rest)) at
    ∙ ap₂ (λ s l. signed_answer bytes s (front_length (text_of bytes)) (ratio_answer method l))
    leads (sym same)
    ∙ sym (quantity-plain method bytes
    (ap₂ (λ s l. is_none s && is_negated l) (sym leads) same ∙ none))

pub signed-negated : (method : ChineseCountMethod) (bytes rest divisor over : List ℕ)
    (skipped index : ℕ) (sign : Option Sign) (answer : Result Quantity Refusal)
    (ratio : Result Ratio Refusal) → sign ≡ number_sign (text_of bytes)
    → StandsAt bytes (chars rest) skipped (front_length (text_of bytes))
    → is_none sign ≡ true → is_negated (text_of rest) ≡ true
    → SplitsNegated rest divisor index over
    → ratio ≡ answer_at skipped rest (fraction_answer method (text_of divisor)
    (length (before_bar (text_of rest)) + 3) (text_of over))
    → answer ≡ signed_by (Some Minus) ratio → answer ≡ quantity_answer method bytes
signed-negated method bytes rest divisor over skipped index sign answer ratio leads at none is_so s h
    is =
    let front = front_length (text_of bytes) in
    let same : drop (front_length (text_of bytes)) (text_of bytes) ≡ text_of rest =
    text_of-rest bytes rest skipped front at in
    is ∙ ap (signed_by (Some Minus)) h
    ∙ ap₂ (λ d o. signed_by (Some Minus) (answer_at skipped rest (fraction_answer method d
    (length (before_bar (text_of rest)) + 3) o))) s.divisor_is s.over_is
    ∙ signed-rest bytes rest skipped front (Some Minus) (negated_answer method (text_of rest)) at
    ∙ ap (λ l. signed_answer bytes (Some Minus) (front_length (text_of bytes))
    (negated_answer method l)) (sym same)
    ∙ sym (quantity-negated method bytes
    (ap₂ (λ s l. is_none s && is_negated l) (sym leads) same ∙ both (is_none sign) (is_negated (text_of rest)) none is_so))

pub none-by : {T : Type 0} (o : Option T) (result is : Bool) → is_some o ≡ not result
    → result ≡ is → is_none o ≡ is
none-by o true true h e = rw h refl
none-by o false false h e = rw h refl
none-by o true false h e = cc
none-by o false true h e = cc

pub not-negated : (none negated : Bool) → negated ≡ false → (none && negated) ≡ false
not-negated true negated h = h
not-negated false negated h = refl

-- the number of characters before the number
sign-within : (text : List ℕ) → sign_length text ≤ length text
sign-within [] = omega arith
sign-within (c ∷ []) = by (sign_of c) where
  by : (sign : Option Sign) → sign_len sign ≤ suc 0
  by None = omega arith
  by (Some sign) = omega arith
sign-within (c ∷ d ∷ []) = by (sign_of c) where
  by : (sign : Option Sign) → sign_len sign ≤ suc (suc 0)
  by None = omega arith
  by (Some sign) = omega arith
sign-within (c ∷ d ∷ next ∷ rest) =
    by (is_below_zero (c ∷ d ∷ next ∷ rest)) (sign_of c) where
      by : (b : Bool) (sign : Option Sign)
          → (if b then 2 else sign_len sign) ≤ suc (suc (suc (length rest)))
      by true sign = omega arith
      by false None = omega arith
      by false (Some sign) = omega arith

yen-within : (text : List ℕ) → yen_length text ≤ length text
yen-within [] = omega arith
yen-within (c ∷ []) = omega arith
yen-within (c ∷ next ∷ rest) = by (is_currency c && is_some (figure_of next)) where
  by : (b : Bool) → (if b then 1 else 0) ≤ suc (suc (length rest))
  by true = omega arith
  by false = omega arith

pub front-within : (text : List ℕ) → front_length text ≤ length text
front-within text =
    let one = sign-within text in
    let two = yen-within (drop (sign_length text) text) in
    omega (arith, one, two, length-drop (sign_length text) text)

-- places in the rest of the text count from there
pub front-place : (bytes number rest : List ℕ)
    → text_of number ≡ drop (sign_length (text_of bytes)) (text_of bytes)
    → text_of rest ≡ drop (yen_length (text_of number)) (text_of number)
    → front_length (text_of bytes) + length (text_of rest) ≡ length (text_of bytes)
front-place bytes number rest first second =
    let text = text_of bytes in
    let one = sign-within (text_of bytes) in
    let two = yen-within (text_of number) in
    let same : yen_length (drop (sign_length (text_of bytes)) (text_of bytes))
    ≡ yen_length (text_of number) = ap yen_length (sym first) in
    let a = ap length first in
    let b = ap length second in
    omega (
      arith,
      one,
      two,
      same,
      a,
      b,
      length-drop (sign_length (text_of bytes)) (text_of bytes),
      length-drop (yen_length (text_of number)) (text_of number),
    )

-- the answer to a ratio with its sign does not name a place
signed-placeless : (sign : Option Sign) (ratio : Ratio) (place : ℕ)
    → signed_ratio sign ratio ≡ Err (incorrect_at place) → ⊥
signed-placeless sign ratio place h =
    by (int_lt greatest number) (int_lt number least) h where
      number : ℤ
      number = signed_number (is_minus sign) ratio.numerator

      least : ℤ
      least = (signed_kind 128).least

      greatest : ℤ
      greatest = (signed_kind 128).greatest

      by : (a b : Bool) → ◌≡◌ {A = Result Quantity Refusal}
          (and_then (if a then Err too_large else (if b then Err too_small else Ok number))
          (λ numerator. Ok (record {
            numerator = numerator;
            denominator = ratio.denominator;
            form = ratio.form;
          }))) (Err (incorrect_at place)) → ⊥
      by true b e = cc
      by false true e = cc
      by false false e = cc

-- where a refusal of a string points
pub quantity-points : (method : ChineseCountMethod) (bytes : List ℕ) (char_index : ℕ)
    → quantity_answer method bytes ≡ Err (incorrect_at char_index)
    → (place : ℕ) × (place < length (text_of bytes)) × (char_index ≡ char_index_of bytes place)
quantity-points method bytes char_index h =
    by (is_none (number_sign (text_of bytes))) (is_negated rest) refl h where
      rest : List ℕ
      rest = drop (front_length (text_of bytes)) (text_of bytes)

      far : (sign : Option Sign)
          → ◌≡◌ {A = Result Quantity Refusal} (Err (too_far sign)) (Err (incorrect_at char_index))
          → ⊥
      far None e = cc
      far (Some Plus) e = cc
      far (Some Minus) e = cc

      points : (sign : Option Sign) (answer : Result Ratio Refusal)
          → ((place : ℕ) → answer ≡ Err (incorrect_at place)
          → place < length (drop (front_length (text_of bytes)) (text_of bytes)))
          → signed_answer bytes sign (front_length (text_of bytes)) answer
          ≡ Err (incorrect_at char_index)
          → (place : ℕ) × (place < length (text_of bytes))
          × (char_index ≡ char_index_of bytes place)
      points sign (Ok ratio) low e = absurd (signed-placeless sign ratio char_index e)
      points sign (Err empty) low e = cc
      points sign (Err too_small) low e = cc
      points sign (Err too_large) low e = absurd (far sign e)
      points sign (Err (incorrect_at place)) low e =
          let less = low place refl in
          let within = front-within (text_of bytes) in (
            place + front_length (text_of bytes),
            omega (arith, less, within, length-drop (front_length (text_of bytes)) (text_of bytes)),
            cc,
          )

      by : (a b : Bool) → is_negated (drop (front_length (text_of bytes)) (text_of bytes)) ≡ b
          → (if a && b
          then signed_answer bytes (Some Minus) (front_length (text_of bytes))
          (negated_answer method (drop (front_length (text_of bytes)) (text_of bytes)))
          else signed_answer bytes (number_sign (text_of bytes)) (front_length (text_of bytes))
          (ratio_answer method (drop (front_length (text_of bytes)) (text_of bytes))))
          ≡ Err (incorrect_at char_index)
          → (place : ℕ) × (place < length (text_of bytes))
          × (char_index ≡ char_index_of bytes place)
      by true true is e =
          points (Some Minus)
          (negated_answer method (drop (front_length (text_of bytes)) (text_of bytes)))
          (λ place l. negated-low method (drop (front_length (text_of bytes)) (text_of bytes)) place
          is l) e
      by true false is e =
          points (number_sign (text_of bytes))
          (ratio_answer method (drop (front_length (text_of bytes)) (text_of bytes)))
          (ratio-low method (drop (front_length (text_of bytes)) (text_of bytes))) e
      by false b is e =
          points (number_sign (text_of bytes))
          (ratio_answer method (drop (front_length (text_of bytes)) (text_of bytes)))
          (ratio-low method (drop (front_length (text_of bytes)) (text_of bytes))) e
