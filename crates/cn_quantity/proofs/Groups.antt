-- Groups of figures and units.
use Rattle.std.proofs.Common.{◌≡◌, ℕ, suc, ◌+◌, ◌*◌, ◌^◌, ◌<◌, ◌≤◌, Bool, true, false, not, ◌&&◌, ◌==◌, nat_lt, List, [], ◌∷◌, ◌++◌, length, length-append, chars, codes, is_some, zero, Option, Some, None, refl, sym, ap, ap₂, ◌∙◌, arith, if◌then◌else◌}
use Rattle.std.specs.Option.{option_map_or}
use Rattle.std.proofs.lemmas.Bool.Decides.{nat_tests}
use Rattle.std.proofs.Math.Nat.{pow-le-pow_right}
use Rattle.std.proofs.lemmas.Bool.{leb-true}
use Rattle.std.proofs.lemmas.List.{append_cancel_right}
use Rattle.cn_core.specs.Characters.{rank_of}
use Rattle.cn_core.specs.FigureCharacters.{figure_of}
use Rattle.cn_core.specs.Text.{text_of}
use Rattle.cn_quantity.specs.declared.characters.DigitKind.TheVariants.{Figure}
use Rattle.cn_quantity.specs.Digits.{after_digits, begins_with_nought, leading_digits}
use Rattle.cn_quantity.specs.Private.{IsGroup}
use Rattle.cn_quantity.specs.declared.turns.Turns.{Turns}
use Rattle.std.specs.Char.{char_set_contains}
use Rattle.cn_core.specs.declared.method.ChineseCountMethod.{ChineseCountMethod}
use Rattle.cn_quantity.specs.Turns.{after_group, after_units, begins_with_zero, by_turns, first_group, has_two_readings, last_group, later_group, leading_number, leading_units, number_of, turns_after, unit_group, units_of, with_group, with_last, without_zero}
use Rattle.cn_quantity.proofs.Ends.{text-parts}

-- more figures do not make a smaller number
number-grows : (number : ℕ) (text : List ℕ) → number ≤ leading_number number text
number-grows number [] = omega arith
number-grows number (c ∷ rest) = by (figure_of c) (λ n. number-grows n rest) where
  by : (figure : Option ℕ) → ((n : ℕ) → n ≤ leading_number n rest)
      → number ≤ option_map_or (λ figure. leading_number (number * 10 + figure) rest) figure number
  by None ih = omega arith
  by (Some figure) ih = let more = ih (number * 10 + figure) in omega (arith, more)

pub number-past : (number c figure : ℕ) (text rest after : List ℕ)
    → leading_number number rest ≡ leading_number 0 text → rest ≡ c ∷ after
    → figure_of c ≡ Some figure → ¬ (number * 10 + figure < 2 ^ 128) → number_of text ≡ None
number-past number c figure text rest after same first is past =
    let next : leading_number number (c ∷ after) ≡ leading_number (number * 10 + figure) after =
    ap (λ f. option_map_or (λ figure. leading_number (number * 10 + figure) after) f number) is in
    let all : leading_number (number * 10 + figure) after ≡ leading_number 0 text =
    sym next ∙ ap (leading_number number) (sym first) ∙ same in
    let more = number-grows (number * 10 + figure) after in
    let test : nat_lt (leading_number 0 text) (2 ^ 128) ≡ false =
    grind (arith, nat_tests, more, all, past) in
    rw test refl

-- the units and the text after them are the text
units-parts : (least : ℕ) (text : List ℕ)
    → leading_units least text ++ after_units least text ≡ text
units-parts least [] = refl
units-parts least (c ∷ rest) = by (rank_of c) (λ rank. units-parts rank rest) where
  either : (b : Bool) (units after : List ℕ) → units ++ after ≡ rest
      → (if b then c ∷ units else []) ++ (if b then after else c ∷ rest) ≡ c ∷ rest
  either true units after ih = ap (λ l. c ∷ l) ih
  either false units after ih = refl

  by : (rank : Option ℕ) → ((rank : ℕ) → leading_units rank rest ++ after_units rank rest ≡ rest)
      → option_map_or (λ rank. if nat_lt least rank then c ∷ leading_units rank rest else []) rank []
      ++ option_map_or (λ rank. if nat_lt least rank then after_units rank rest else c ∷ rest) rank
      (c ∷ rest) ≡ c ∷ rest
  by None ih = refl
  by (Some rank) ih =
      either (nat_lt least rank) (leading_units rank rest) (after_units rank rest) (ih rank)

pub IsGroup-at : (bytes after units rest : List ℕ) (count number : ℕ) (nought : Bool)
    → count ≡ leading_digits Figure (text_of bytes)
    → text_of after ≡ after_digits Figure (text_of bytes)
    → Some number ≡ number_of (text_of bytes)
    → text_of rest ≡ after_units 1 (text_of after) → chars after ≡ chars units ++ chars rest
    → nought ≡ begins_with_nought (text_of bytes) → IsGroup bytes count number nought units rest
IsGroup-at bytes after units rest count number nought size digits is end parts first = record {
  count_is = size;
  number_is = sym is;
  nought_is = first;
  units_is =
      append_cancel_right (text_of units) (leading_units 1 (text_of after)) (text_of rest)
      (sym (text-parts after units rest parts) ∙ sym (units-parts 1 (text_of after))
      ∙ ap (λ l. leading_units 1 (text_of after) ++ l) (sym end))
      ∙ ap (leading_units 1) digits;
  rest_is = end ∙ ap (after_units 1) digits;
}

-- the text after a group is not longer than the text
digits-length : (text : List ℕ)
    → leading_digits Figure text + length (after_digits Figure text) ≡ length text
digits-length [] = refl
digits-length (c ∷ rest) = by (is_some (figure_of c)) (digits-length rest) where
  by : (b : Bool) → leading_digits Figure rest + length (after_digits Figure rest) ≡ length rest
      → (if b then suc (leading_digits Figure rest) else 0)
      + length (if b then after_digits Figure rest else c ∷ rest) ≡ suc (length rest)
  by true ih = omega (arith, ih)
  by false ih = omega arith

units-length : (least : ℕ) (text : List ℕ) → length (after_units least text) ≤ length text
units-length least text =
    let all = ap length (units-parts least text) in
    omega (arith, all, length-append (leading_units least text) (after_units least text))

group-length : (text : List ℕ)
    → leading_digits Figure text + length (after_group text) ≤ length text
group-length text =
    let a = digits-length text in
    let b = units-length 1 (after_digits Figure text) in omega (arith, a, b)

zero-length : (text : List ℕ) → length (without_zero text) ≤ length text
zero-length [] = omega arith
zero-length (c ∷ rest) = by (char_set_contains (codes "零〇") c) where
  by : (b : Bool) → length (if b then rest else c ∷ rest) ≤ suc (length rest)
  by true = omega arith
  by false = omega arith

-- the groups that are read, and those of this suffix, are those of the text
pub record IsTurning (method : ChineseCountMethod) (bytes : List ℕ) (turns : Turns)
    (rest : List ℕ) : Type 0 where
  pub steps : ℕ
  pub enough : length (text_of rest) ≤ steps
  pub same : by_turns method (text_of bytes) ≡ turns_after steps method turns (text_of rest)

pub IsTurning-first : (method : ChineseCountMethod) (bytes after : List ℕ) (turns : Turns)
    → Some turns ≡ first_group method (text_of bytes)
    → text_of after ≡ after_group (text_of bytes) → IsTurning method bytes turns after
IsTurning-first method bytes after turns first rest = record {
  steps = length (text_of bytes);
  enough =
      (let size = group-length (text_of bytes) in
      let same = ap length rest in omega (arith, size, same));
  same = rw (← first, rest) refl;
}

later-some : (method : ChineseCountMethod) (turns next : Turns) (after_zero : Bool) (group : List ℕ)
    → Some next ≡ later_group method turns after_zero group → 0 < leading_digits Figure group
later-some method turns next after_zero group h =
    by (number_of group) (nat_lt 0 (leading_digits Figure group)) refl h where
      by : (o : Option ℕ) (b : Bool) → nat_lt 0 (leading_digits Figure group) ≡ b
          → Some next ≡ option_map_or (λ number. if b
          then (if nat_lt 0 (length (units_of group))
          then (if has_two_readings method turns after_zero (units_of group) then None
          else unit_group method turns number (begins_with_nought group) (units_of group))
          else last_group turns after_zero (begins_with_nought group)
          (leading_digits Figure group) number) else None) o None
          → 0 < leading_digits Figure group
      by None b e h = cc
      by (Some number) false e h = cc
      by (Some number) true e h = grind (arith, nat_tests, e)

turns-next : (method : ChineseCountMethod) (turns next : Turns) (steps c : ℕ) (rest : List ℕ)
    → Some next ≡ later_group method turns (begins_with_zero (c ∷ rest)) (without_zero (c ∷ rest))
    → turns_after (suc steps) method turns (c ∷ rest)
    ≡ turns_after steps method next (after_group (without_zero (c ∷ rest)))
turns-next method turns next steps c rest is = rw (← is) refl

turns-none : (method : ChineseCountMethod) (turns : Turns) (steps c : ℕ) (rest : List ℕ)
    → None ≡ later_group method turns (begins_with_zero (c ∷ rest)) (without_zero (c ∷ rest))
    → turns_after (suc steps) method turns (c ∷ rest) ≡ None
turns-none method turns steps c rest is = rw (← is) refl

pub IsTurning-more : (method : ChineseCountMethod) (bytes rest group after text : List ℕ) (c : ℕ)
    (turns next : Turns) (after_zero : Bool) → IsTurning method bytes turns rest
    → text_of rest ≡ c ∷ text → after_zero ≡ begins_with_zero (text_of rest)
    → text_of group ≡ without_zero (text_of rest)
    → Some next ≡ later_group method turns after_zero (text_of group)
    → text_of after ≡ after_group (text_of group) → IsTurning method bytes next after
IsTurning-more method bytes rest group after text c turns next after_zero t first zero_is group_is is
    rest_is = by t.steps t.enough t.same where
      left : text_of after ≡ after_group (without_zero (c ∷ text))
      left = rest_is ∙ ap after_group (group_is ∙ ap without_zero first)

      later : Some next
          ≡ later_group method turns (begins_with_zero (c ∷ text)) (without_zero (c ∷ text))
      later = is ∙ ap₂ (later_group method turns) (zero_is ∙ ap begins_with_zero first)
          (group_is ∙ ap without_zero first)

      size : length (text_of after) < length (c ∷ text)
      size =
          let same = ap length left in
          let group = group-length (without_zero (c ∷ text)) in
          let some = later-some method turns next (begins_with_zero (c ∷ text))
          (without_zero (c ∷ text)) later in
          let less = zero-length (c ∷ text) in omega (arith, same, group, some, less)

      by : (steps : ℕ) → length (text_of rest) ≤ steps
          → by_turns method (text_of bytes) ≡ turns_after steps method turns (text_of rest)
          → IsTurning method bytes next after
      by zero enough same =
          absurd (let all = ap length first in omega (arith, enough, all))
      by (suc steps) enough same = record {
        steps = steps;
        enough = (let all = ap length first in let less = size in omega (arith, enough, all, less));
        same = same ∙ ap (turns_after (suc steps) method turns) first
            ∙ turns-next method turns next steps c text later
            ∙ ap (turns_after steps method next) (sym left);
      }

-- the last groups, or a group that is not valid
turns-end : (steps : ℕ) (method : ChineseCountMethod) (turns : Turns)
    → turns_after steps method turns [] ≡ Some turns.sum
turns-end zero method turns = refl
turns-end (suc steps) method turns = refl

pub turned-end : (method : ChineseCountMethod) (bytes rest : List ℕ) (turns : Turns)
    → IsTurning method bytes turns rest → text_of rest ≡ []
    → Some turns.sum ≡ by_turns method (text_of bytes)
turned-end method bytes rest turns t none =
    sym (t.same ∙ ap (turns_after t.steps method turns) none ∙ turns-end t.steps method turns)

pub turned-none : (method : ChineseCountMethod) (bytes rest group text : List ℕ) (c : ℕ)
    (turns : Turns) (after_zero : Bool) → IsTurning method bytes turns rest
    → text_of rest ≡ c ∷ text → after_zero ≡ begins_with_zero (text_of rest)
    → text_of group ≡ without_zero (text_of rest)
    → None ≡ later_group method turns after_zero (text_of group)
    → None ≡ by_turns method (text_of bytes)
turned-none method bytes rest group text c turns after_zero t first zero_is group_is is =
    by t.steps t.enough t.same where
      later : None
          ≡ later_group method turns (begins_with_zero (c ∷ text)) (without_zero (c ∷ text))
      later = is ∙ ap₂ (later_group method turns) (zero_is ∙ ap begins_with_zero first)
          (group_is ∙ ap without_zero first)

      by : (steps : ℕ) → length (text_of rest) ≤ steps
          → by_turns method (text_of bytes) ≡ turns_after steps method turns (text_of rest)
          → None ≡ by_turns method (text_of bytes)
      by zero enough same =
          absurd (let all = ap length first in omega (arith, enough, all))
      by (suc steps) enough same =
          sym (same ∙ ap (turns_after (suc steps) method turns) first
          ∙ turns-none method turns steps c text later)

-- a number that does not fit makes a sum that does not fit
pub last-past : (turns : Turns) (number : ℕ) → ¬ (number < 2 ^ 128) → with_last turns number ≡ None
last-past turns number past =
    let test : nat_lt (turns.sum + number) (2 ^ 128) ≡ false = grind (arith, nat_tests, past) in
    rw test refl

-- a power of ten that does not fit differs from each number that fits
pub power-above : (product count : ℕ) → ¬ (count ≤ 38) → product < 2 ^ 128
    → (product == 10 ^ count) ≡ false
power-above product count much small =
    let more : 39 ≤ count = omega (arith, much) in
    let power : 10 ^ 39 ≤ 10 ^ count = pow-le-pow_right (omega arith) more in
    let least : 2 ^ 128 ≤ 10 ^ 39 = leb-true _ _ refl in
    grind (arith, nat_tests, power, least, small)

-- a text that does not begin with a figure is not a number by turns
pub turns-begin : (method : ChineseCountMethod) (text : List ℕ) → leading_digits Figure text ≡ 0
    → by_turns method text ≡ None
turns-begin method text none = by (number_of text) (leading_digits Figure text) none refl where
  first : (o : Option ℕ) (count : ℕ) → count ≡ 0 → option_map_or (λ number.
      if nat_lt 0 count && not (begins_with_nought text) && nat_lt 0 (length (units_of text))
      then with_group method 0 number (units_of text) else None) o None ≡ None
  first None count e = refl
  first (Some number) count e = rw e refl

  by : (o : Option ℕ) (count : ℕ) → count ≡ 0 → leading_digits Figure text ≡ count
      → by_turns method text ≡ None
  by o count e is =
      ap (λ turns. option_map_or (λ turns. turns_after (length text) method turns (after_group text))
      turns None) (first (number_of text) (leading_digits Figure text) (is ∙ e))
