-- A number in which figures and units alternate, such as 1亿2000万, 12万3千 and 5千5.
use Rattle.std.specs.Prelude.{ℕ, zero, suc, ◌+◌, ◌*◌, ◌/◌, ◌^◌, Bool, false, not, ◌&&◌, ◌==◌, nat_le, nat_lt, List, [], ◌∷◌, codes, length, Option, Some, None, if◌then◌else◌}
use Rattle.std.specs.Char.{char_set_contains}
use Rattle.std.specs.Option.{option_map_or}
use Rattle.cn_core.specs.declared.method.ChineseCountMethod.{ChineseCountMethod}
use Rattle.cn_core.specs.Characters.{rank_of}
use Rattle.cn_core.specs.FigureCharacters.{figure_of}
use Rattle.cn_quantity.specs.declared.characters.DigitKind.TheVariants.{Figure}
use Rattle.cn_quantity.specs.declared.turns.Turns.{Turns}
use Rattle.cn_quantity.specs.Digits.{after_digits, begins_with_nought, leading_digits}
use Rattle.cn_quantity.specs.Units.{times_units}

-- the number, continued with the figures with which a text begins
abbrev pub leading_number : ℕ → List ℕ → ℕ
leading_number number [] = number
leading_number number (c ∷ rest) =
    option_map_or (λ figure. leading_number (number * 10 + figure) rest) (figure_of c) number

-- the rising units that a text begins with, each greater than this rank, and what follows them
abbrev pub leading_units : ℕ → List ℕ → List ℕ
leading_units least [] = []
leading_units least (c ∷ rest) =
    option_map_or (λ rank. if nat_lt least rank then c ∷ leading_units rank rest else [])
    (rank_of c) []

abbrev pub after_units : ℕ → List ℕ → List ℕ
after_units least [] = []
after_units least (c ∷ rest) =
    option_map_or (λ rank. if nat_lt least rank then after_units rank rest else c ∷ rest)
    (rank_of c) (c ∷ rest)

-- the text begins with 零 or 〇
abbrev pub begins_with_zero : List ℕ → Bool
begins_with_zero [] = false
begins_with_zero (c ∷ rest) = char_set_contains (codes "零〇") c

-- the text without that character, if it begins with it
abbrev pub without_zero : List ℕ → List ℕ
without_zero [] = []
without_zero (c ∷ rest) = if char_set_contains (codes "零〇") c then rest else c ∷ rest

-- the units of the group at the start of a text, and the text after the group
abbrev pub units_of : List ℕ → List ℕ
units_of text = leading_units 1 (after_digits Figure text)

abbrev pub after_group : List ℕ → List ℕ
after_group text = after_units 1 (after_digits Figure text)

-- the number of its figures, if it fits 128 bits
abbrev pub number_of : List ℕ → Option ℕ
number_of text =
    let number = leading_number 0 text in
    if nat_lt number (2 ^ 128) then Some number else None

-- the sum with one more number, if it fits 128 bits
abbrev pub added : ℕ → ℕ → Option ℕ
added sum number = if nat_lt (sum + number) (2 ^ 128) then Some (sum + number) else None

-- the groups so far and one more: this number times these units
abbrev pub with_group : ChineseCountMethod → ℕ → ℕ → List ℕ → Option Turns
with_group method sum number units =
    option_map_or (λ value.
    option_map_or (λ product.
    option_map_or (λ total.
    Some (record { sum = total; product = product; single = length units == 1 }))
    (added sum value) None)
    (times_units method 1 units) None)
    (times_units method number units) None

-- the groups so far and a last number, after which nothing may follow
abbrev pub with_last : Turns → ℕ → Option Turns
with_last turns number =
    option_map_or (λ total. Some (record { sum = total; product = 0; single = false }))
    (added turns.sum number) None

-- the first group: figures that do not begin with 0, and units
abbrev pub first_group : ChineseCountMethod → List ℕ → Option Turns
first_group method text =
    option_map_or (λ number.
    if nat_lt 0 (leading_digits Figure text) && not (begins_with_nought text)
    && nat_lt 0 (length (units_of text)) then with_group method 0 number (units_of text) else None)
    (number_of text) None

-- the value is below the product of the units of the group before
abbrev pub is_below : Option ℕ → ℕ → Bool
is_below value product = option_map_or (λ v. nat_lt v product) value false

-- figures without units fill their place: there are as many of them as the product of the units
-- before them has zeros
abbrev pub fills : Turns → ℕ → Bool
fills turns count = turns.product == 10 ^ count

-- or they are one figure above 0 after a single unit, which counts tenths of that unit
abbrev pub is_tenth : Turns → Bool → ℕ → Bool
is_tenth turns nought count = count == 1 && turns.single && not nought

-- a last group, which has no units; after 零 it does not begin with 0, and is below the product of
-- the units before it
abbrev pub last_group : Turns → Bool → Bool → ℕ → ℕ → Option Turns
last_group turns after_zero nought count number =
    if after_zero
    then (if not nought && nat_lt number turns.product then with_last turns number else None)
    else (if fills turns count then with_last turns number
    else (if is_tenth turns nought count then with_last turns (number * (turns.product / 10))
    else None))

-- a later group with units does not begin with 0, and is below the product of the units before it
abbrev pub unit_group : ChineseCountMethod → Turns → ℕ → Bool → List ℕ → Option Turns
unit_group method turns number nought units =
    if not nought && is_below (times_units method number units) turns.product
    then with_group method turns.sum number units else None

-- units that make less than 10000 are directly after units that make 10^8 or more: 1亿2千 means 1.2亿
-- to some people, and 1亿零2千 to others
abbrev pub has_two_readings : ChineseCountMethod → Turns → Bool → List ℕ → Bool
has_two_readings method turns after_zero units =
    not after_zero
    && (nat_le (10 ^ 8) turns.product && is_below (times_units method 1 units) 10000)

-- a later group, after 零 or not
abbrev pub later_group : ChineseCountMethod → Turns → Bool → List ℕ → Option Turns
later_group method turns after_zero group =
    option_map_or (λ number.
    if nat_lt 0 (leading_digits Figure group)
    then (if nat_lt 0 (length (units_of group))
    then (if has_two_readings method turns after_zero (units_of group) then None
    else unit_group method turns number (begins_with_nought group) (units_of group))
    else last_group turns after_zero (begins_with_nought group) (leading_digits Figure group) number)
    else None)
    (number_of group) None

-- the sum of these groups and of all groups of a text, of which there are at most `steps`
abbrev pub turns_after : ℕ → ChineseCountMethod → Turns → List ℕ → Option ℕ
turns_after steps method turns [] = Some turns.sum
turns_after zero method turns (c ∷ rest) = None
turns_after (suc steps) method turns (c ∷ rest) =
    option_map_or
    (λ next. turns_after steps method next (after_group (without_zero (c ∷ rest))))
    (later_group method turns (begins_with_zero (c ∷ rest)) (without_zero (c ∷ rest))) None

-- the number of a text in which figures and units alternate
abbrev pub by_turns : ChineseCountMethod → List ℕ → Option ℕ
by_turns method text =
    option_map_or (λ turns. turns_after (length text) method turns (after_group text))
    (first_group method text) None
