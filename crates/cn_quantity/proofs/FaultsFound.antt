-- Each refusal has a reason.
use Rattle.std.proofs.Common.{◌≡◌, ◌↔◌, ℕ, ℤ, int_lt, ◌+◌, ◌-◌, ◌*◌, ◌^◌, ◌&&◌, Bool, true, false, nat_lt, List, ◌++◌, length, take, drop, Option, Some, None, is_none, is_some, Result, Ok, Err, refl, sym, ap, ◌∙◌, if◌then◌else◌}
use Rattle.std.specs.Option.{option_map_or, option_or}
use Rattle.cn_core.specs.declared.method.ChineseCountMethod.{ChineseCountMethod}
use Rattle.cn_core.specs.declared.sign.Sign.{Sign}
use Rattle.cn_core.specs.declared.sign.Sign.TheVariants.{Minus, Plus}
use Rattle.cn_core.specs.Judging.{judge}
use Rattle.cn_core.specs.Reading.{typed_number, is_minus, too_far}
use Rattle.cn_core.specs.Refusal.{Refusal, empty, incorrect_at, too_large, too_small}
use Rattle.cn_core.specs.Text.{text_of, marks_of}
use Rattle.cn_core.specs.Whole.{Kind, signed_kind, signed_number}
use Rattle.cn_quantity.specs.declared.characters.DigitKind.TheVariants.{Chinese, Figure}
use Rattle.cn_quantity.specs.declared.fault.QuantityFault.{QuantityFault}
use Rattle.cn_quantity.specs.declared.fault.QuantityFault.TheVariants.{Misread}
use Rattle.cn_quantity.specs.declared.misread.MisreadFault.{MisreadFault}
use Rattle.cn_quantity.specs.declared.number.Decimal.{Decimal}
use Rattle.cn_quantity.specs.declared.quantity.Quantity.{Quantity}
use Rattle.cn_quantity.specs.declared.quantity.QuantityForm.{QuantityForm}
use Rattle.cn_quantity.specs.declared.ratio.Ratio.{Ratio}
use Rattle.cn_quantity.specs.Answer.{and_then, further_by}
use Rattle.cn_quantity.specs.Decimal.{after_point, before_point, decimals_behind_point, is_chinese_decimal}
use Rattle.cn_quantity.specs.Digits.{read_with_units}
use Rattle.cn_quantity.specs.Figures.{decimals_in_figures, is_in_figures}
use Rattle.cn_quantity.specs.Misread.{bare_ten_between, first_misread}
use Rattle.cn_quantity.specs.Number.{decimal_of, divisor_answer, number_answer, or_shaped, part_answer, shaped_number}
use Rattle.cn_quantity.specs.Ratio.{after_bar, before_bar, form_of, form_over, fraction_answer, is_fraction, is_negated, mixed, negated_answer, ratio_answer, ratio_of, share, simple_answer}
use Rattle.cn_quantity.specs.Reading.{front_length, number_sign, quantity_answer, signed_answer}
use Rattle.cn_quantity.specs.Reason.{divisor_fault, fault_in, fraction_fault, is_later, misread_fault, misread_rule_between, number_fault, numeral_fault, part_fault, quantity_fault, refused_fault, signed_fault, simple_fault, sum_fault, whole_fault, whole_part}
use Rattle.cn_quantity.specs.Turns.{by_turns}
use Rattle.cn_quantity.specs.Units.{are_rising_units, times_units}
use Rattle.cn_quantity.specs.WholeNumber.{misread_answer, reader_answer, refused_at, sum_answer, whole_answer}
use Rattle.cn_quantity.proofs.Numbers.{a-decimal, a-turned, decimal-placeless, first-refused, in-figures}

-- one of two is found
or-first : (first second : Option QuantityFault) → is_some first ≡ true
    → is_some (option_or first second) ≡ true
or-first (Some fault) second h = refl
or-first None second h = cc

or-second : (first second : Option QuantityFault) → is_some second ≡ true
    → is_some (option_or first second) ≡ true
or-second (Some fault) second h = refl
or-second None second h = h

in-found : {T : Type 0} (answer : Result T Refusal) (refusal : Refusal)
    (fault : Option QuantityFault) → answer ≡ Err refusal → is_some fault ≡ true
    → is_some (fault_in answer fault) ≡ true
in-found answer empty fault e h = rw e refl
in-found answer (incorrect_at place) fault e h = rw e h
in-found answer too_large fault e h = rw e refl
in-found answer too_small fault e h = rw e refl

-- the reason is needed only if a character is reported
placed-found : {T : Type 0} (answer : Result T Refusal) (refusal : Refusal)
    (fault : Option QuantityFault) → answer ≡ Err refusal
    → ((place : ℕ) → answer ≡ Err (incorrect_at place) → is_some fault ≡ true)
    → is_some (fault_in answer fault) ≡ true
placed-found answer empty fault e h = rw e refl
placed-found answer (incorrect_at place) fault e h = let found = h place e in rw e found
placed-found answer too_large fault e h = rw e refl
placed-found answer too_small fault e h = rw e refl

sum-found : (method : ChineseCountMethod) (rank : ℕ) (before from : List ℕ) (refusal : Refusal)
    → sum_answer method rank before from ≡ Err refusal
    → is_some (sum_fault method rank before from) ≡ true
sum-found method rank before from refusal e =
    or-second _ _ (or-second (numeral_fault from (judge method (marks_of from))) _
    (in-found (sum_answer method rank before from) refusal _ e refl))

refused-found : (text : List ℕ) (answer : Result ℕ Refusal) (place : ℕ) (rule : MisreadFault)
    → is_some (refused_fault text answer place rule) ≡ true
refused-found text (Ok number) place rule = refl
refused-found text (Err refusal) place rule = by (is_later refusal (incorrect_at place)) where
  by : (b : Bool)
      → is_some (if b then numeral_fault text (Err refusal) else Some (Misread rule)) ≡ true
  by true = refl
  by false = refl

misread-found : (method : ChineseCountMethod) (before from : List ℕ) (refusal : Refusal)
    → misread_answer method before from ≡ Err refusal
    → is_some (misread_fault method before from) ≡ true
misread-found method before from refusal e = by (bare_ten_between before from) e where
  by : (bare : Option ℕ) → option_map_or (λ rank. sum_answer method rank before from) bare
      (refused_at (reader_answer method (before ++ from)) (length before)) ≡ Err refusal
      → is_some (option_map_or (λ rank. sum_fault method rank before from) bare
      (refused_fault (before ++ from) (reader_answer method (before ++ from)) (length before)
      (misread_rule_between before from))) ≡ true
  by (Some rank) e = sum-found method rank before from refusal e
  by None e =
      refused-found (before ++ from) (reader_answer method (before ++ from)) (length before)
      (misread_rule_between before from)

whole-found : (method : ChineseCountMethod) (text : List ℕ) (refusal : Refusal)
    → whole_answer method text ≡ Err refusal → is_some (whole_fault method text) ≡ true
whole-found method text refusal e = by (first_misread text) e where
  reader : (answer : Result ℕ Refusal) → answer ≡ Err refusal
      → is_some (numeral_fault text answer) ≡ true
  reader answer e = rw e refl

  by : (found : Option ℕ)
      → option_map_or (λ place. misread_answer method (take place text) (drop place text)) found
      (reader_answer method text) ≡ Err refusal
      → is_some (option_map_or (λ place. misread_fault method (take place text) (drop place text))
      found (numeral_fault text (reader_answer method text))) ≡ true
  by None e = reader (reader_answer method text) e
  by (Some place) e = misread-found method (take place text) (drop place text) refusal e

-- the whole part of a number that is refused at a character is refused
shaped-placed : (method : ChineseCountMethod) (text : List ℕ) (first : Refusal) (place : ℕ)
    → whole_answer method text ≡ Err first
    → shaped_number method text ≡ Err (incorrect_at place)
    → is_some (whole_fault method (whole_part text)) ≡ true
shaped-placed method text first place whole h =
    figures (is_in_figures text) refl where
      decimal : (b : Bool) → is_chinese_decimal text ≡ b → is_in_figures text ≡ false
          → by_turns method text ≡ None → is_some (whole_fault method (whole_part text)) ≡ true
      decimal true is e t =
          let stops = first-refused (whole_answer method (before_point text))
          (decimals_behind_point text)
          (λ whole. read_with_units method Chinese whole (after_point text)) place
          (sym (a-decimal method text e t is) ∙ h) in
          let found = whole-found method (before_point text) (incorrect_at place) stops in
          rw is found
      decimal false is e t = let found = whole-found method text first whole in rw is found

      turns : (o : Option ℕ) → by_turns method text ≡ o → is_in_figures text ≡ false
          → is_some (whole_fault method (whole_part text)) ≡ true
      turns (Some number) t e =
          absurd (decimal-placeless 0 (Some number) place
          (sym (a-turned method text number e t) ∙ h))
      turns None t e = decimal (is_chinese_decimal text) refl e t

      figures : (b : Bool) → is_in_figures text ≡ b
          → is_some (whole_fault method (whole_part text)) ≡ true
      figures true e =
          absurd (decimal-placeless (decimals_in_figures text) (read_with_units method Figure 0 text)
          place (sym (in-figures method text e) ∙ h))
      figures false e = turns (by_turns method text) refl e

number-placed : (method : ChineseCountMethod) (text : List ℕ) (place : ℕ)
    → number_answer method text ≡ Err (incorrect_at place)
    → is_some (whole_fault method (whole_part text)) ≡ true
number-placed method text place h = by (whole_answer method text) refl h where
  by : (first : Result ℕ Refusal) → whole_answer method text ≡ first
      → or_shaped first (shaped_number method text) ≡ Err (incorrect_at place)
      → is_some (whole_fault method (whole_part text)) ≡ true
  by (Ok number) is e = absurd (decimal-placeless 0 (Some number) place e)
  by (Err refusal) is e = shaped-placed method text refusal place is e

number-found : (method : ChineseCountMethod) (text : List ℕ) (refusal : Refusal)
    → number_answer method text ≡ Err refusal → is_some (number_fault method text) ≡ true
number-found method text refusal e =
    placed-found (number_answer method text) refusal _ e
    (λ place h. number-placed method text place h)

part-found : (method : ChineseCountMethod) (text : List ℕ) (refusal : Refusal)
    → part_answer method text ≡ Err refusal → is_some (part_fault method text) ≡ true
part-found method text refusal e =
    placed-found (part_answer method text) refusal _ e (λ place h.
    by (nat_lt 0 (length text) && are_rising_units text) place h) where
      by : (b : Bool) (place : ℕ)
          → (if b then decimal_of 0 (times_units method 1 text) else number_answer method text)
          ≡ Err (incorrect_at place) → is_some (number_fault method text) ≡ true
      by true place h = absurd (decimal-placeless 0 (times_units method 1 text) place h)
      by false place h = number-found method text (incorrect_at place) h

divisor-found : (method : ChineseCountMethod) (text : List ℕ) (refusal : Refusal)
    → divisor_answer method text ≡ Err refusal → is_some (divisor_fault method text) ≡ true
divisor-found method text refusal e =
    in-found (divisor_answer method text) refusal _ e (or-second (part_fault method text) _ refl)

-- what fits or not names no character
ratio-placeless : (divisor : ℕ) (form : QuantityForm) (decimal : Decimal) (place : ℕ)
    → ratio_of divisor form decimal ≡ Err (incorrect_at place) → ⊥
ratio-placeless divisor form decimal place h =
    by (nat_lt (divisor * 10 ^ decimal.decimals) (2 ^ 128)) _ h where
      by : (b : Bool) (ratio : Ratio) → (if b then Ok ratio else Err too_large)
          ≡ Err (incorrect_at place) → ⊥
      by true ratio e = cc
      by false ratio e = cc

fraction-found : (method : ChineseCountMethod) (before : List ℕ) (at : ℕ) (after : List ℕ)
    (place : ℕ) → fraction_answer method before at after ≡ Err (incorrect_at place)
    → is_some (fraction_fault method before after) ≡ true
fraction-found method before at after place e = by (divisor_answer method before) refl e where
  over : (part : Result Decimal Refusal) (divisor : ℕ) → part_answer method after ≡ part
      → and_then (further_by at part)
      (λ decimal. ratio_of divisor (form_over divisor) decimal) ≡ Err (incorrect_at place)
      → is_some (part_fault method after) ≡ true
  over (Ok decimal) divisor is e =
      absurd (ratio-placeless divisor (form_over divisor) decimal place e)
  over (Err refusal) divisor is e = part-found method after refusal is

  by : (divisor : Result ℕ Refusal) → divisor_answer method before ≡ divisor
      → and_then divisor (λ divisor. and_then (further_by at (part_answer method after))
      (λ decimal. ratio_of divisor (form_over divisor) decimal)) ≡ Err (incorrect_at place)
      → is_some (fraction_fault method before after) ≡ true
  by (Ok divisor) is e =
      or-second (divisor_fault method before) _
      (over (part_answer method after) divisor refl e)
  by (Err refusal) is e = or-first _ (part_fault method after) (divisor-found method before refusal is)

simple-found : (method : ChineseCountMethod) (text : List ℕ) (place : ℕ)
    → simple_answer method text ≡ Err (incorrect_at place)
    → is_some (simple_fault method text) ≡ true
simple-found method text place e = by (is_fraction text) (share text) refl refl where
  number : (divisor : ℕ) (form : Decimal → QuantityForm) (part : List ℕ)
      (answer : Result Decimal Refusal) → number_answer method part ≡ answer
      → and_then answer (λ decimal. ratio_of divisor (form decimal) decimal)
      ≡ Err (incorrect_at place) → is_some (number_fault method part) ≡ true
  number divisor form part (Ok decimal) is e =
      absurd (ratio-placeless divisor (form decimal) decimal place e)
  number divisor form part (Err refusal) is e = number-found method part refusal is

  by : (b : Bool) (o : Option ℕ) → is_fraction text ≡ b → share text ≡ o
      → is_some (simple_fault method text) ≡ true
  by true o f d =
      let h = rw f at e in
      let found = fraction-found method (before_bar text) (length (before_bar text) + 2)
      (after_bar text) place h in rw f found
  by false (Some divisor) f d =
      let h = rw (f, d) at e in
      let found = number divisor (λ decimal. form_over divisor) (take (length text - 1) text)
      (number_answer method (take (length text - 1) text)) refl h in rw (f, d) found
  by false None f d =
      let h = rw (f, d) at e in
      let found = number 1 (λ decimal. form_of decimal.decimals) text (number_answer method text)
      refl h in rw (f, d) found

ratio-found : (method : ChineseCountMethod) (text : List ℕ) (place : ℕ)
    → ratio_answer method text ≡ Err (incorrect_at place) → is_some (simple_fault method text) ≡ true
ratio-found method text place e = by (mixed method text) e where
  by : (o : Option Ratio)
      → option_map_or (λ ratio. Ok ratio) o (simple_answer method text) ≡ Err (incorrect_at place)
      → is_some (simple_fault method text) ≡ true
  by (Some ratio) e = cc
  by None e = simple-found method text place e

-- a sign names no character
typed-placeless : (kind : Kind) (number : ℤ) (place : ℕ) (next : ℤ → Quantity)
    → and_then (typed_number kind number) (λ n. Ok (next n)) ≡ Err (incorrect_at place) → ⊥
typed-placeless kind number place next h =
    by (int_lt kind.greatest number) (int_lt number kind.least) h where
      by : (above below : Bool) → and_then (if above then Err too_large
          else (if below then Err too_small else Ok number)) (λ n. Ok (next n))
          ≡ Err (incorrect_at place) → ⊥
      by true below e = cc
      by false true e = cc
      by false false e = cc

far-placeless : (sign : Option Sign) (place : ℕ)
    → ◌≡◌ {A = Result Quantity Refusal} (Err (too_far sign)) (Err (incorrect_at place)) → ⊥
far-placeless None place h = cc
far-placeless (Some Plus) place h = cc
far-placeless (Some Minus) place h = cc

signed-placed : (bytes : List ℕ) (sign : Option Sign) (front place : ℕ)
    (answer : Result Ratio Refusal)
    → signed_answer bytes sign front answer ≡ Err (incorrect_at place)
    → (p : ℕ) × (answer ≡ Err (incorrect_at p))
signed-placed bytes sign front place (Ok ratio) h =
    absurd (typed-placeless (signed_kind 128) (signed_number (is_minus sign) ratio.numerator) place
    (λ numerator. record {
      numerator = numerator;
      denominator = ratio.denominator;
      form = ratio.form;
    }) h)
signed-placed bytes sign front place (Err empty) h = cc
signed-placed bytes sign front place (Err (incorrect_at p)) h = (p, refl)
signed-placed bytes sign front place (Err too_large) h = absurd (far-placeless sign place h)
signed-placed bytes sign front place (Err too_small) h = cc

signed-found : (method : ChineseCountMethod) (bytes : List ℕ) (place : ℕ)
    → quantity_answer method bytes ≡ Err (incorrect_at place)
    → is_some (signed_fault method bytes) ≡ true
signed-found method bytes place e =
    by (is_none (number_sign (text_of bytes)) && is_negated rest) e where
      rest : List ℕ
      rest = drop (front_length (text_of bytes)) (text_of bytes)

      by : (b : Bool)
          → (if b then signed_answer bytes (Some Minus) (front_length (text_of bytes))
          (negated_answer method (drop (front_length (text_of bytes)) (text_of bytes)))
          else signed_answer bytes (number_sign (text_of bytes)) (front_length (text_of bytes))
          (ratio_answer method (drop (front_length (text_of bytes)) (text_of bytes))))
          ≡ Err (incorrect_at place)
          → is_some (if b then fraction_fault method
          (before_bar (drop (front_length (text_of bytes)) (text_of bytes)))
          (drop 1 (after_bar (drop (front_length (text_of bytes)) (text_of bytes))))
          else simple_fault method (drop (front_length (text_of bytes)) (text_of bytes))) ≡ true
      by true h =
          let placed = signed-placed bytes (Some Minus) (front_length (text_of bytes)) place
          (negated_answer method rest) h in
          fraction-found method (before_bar rest) (length (before_bar rest) + 3)
          (drop 1 (after_bar rest)) placed.0 placed.1
      by false h =
          let placed = signed-placed bytes (number_sign (text_of bytes))
          (front_length (text_of bytes)) place (ratio_answer method rest) h in
          ratio-found method rest placed.0 placed.1

not-both : (b : Bool) → b ≡ false → b ≡ true → ⊥
not-both b is_false is_true = cc

-- so exactly the quantities have none
pub none-read : (method : ChineseCountMethod) (bytes : List ℕ)
    → (quantity_fault method bytes ≡ None)
    ↔ ((quantity : Quantity) × (quantity_answer method bytes ≡ Ok quantity))
none-read method bytes = (λ none. by (quantity_answer method bytes) refl none, λ read. rw read.1 refl) where
  by : (answer : Result Quantity Refusal) → quantity_answer method bytes ≡ answer
      → quantity_fault method bytes ≡ None
      → (quantity : Quantity) × (quantity_answer method bytes ≡ Ok quantity)
  by (Ok quantity) is none = (quantity, is)
  by (Err refusal) is none =
      let found = placed-found (quantity_answer method bytes) refusal (signed_fault method bytes) is
      (λ place e. signed-found method bytes place e) in
      let some : is_some (quantity_fault method bytes) ≡ true = found in
      let other : is_some (quantity_fault method bytes) ≡ false = ap is_some none in
      absurd (not-both _ other some)
