-- The forms that an amount can have, and the one in which it is written. The rule goes by places,
-- from the top: a digit that is not 0 is written with its unit, and 零 is written before it if the
-- digit directly before it is 0.
use Rattle.std.specs.Prelude.{ℕ, zero, suc, Bool, true, false, not, ◌&&◌, ◌||◌, List, [], ◌∷◌, ◌++◌, if◌then◌else◌}
use Rattle.cn_amount.specs.declared.before.Before.{Before}
use Rattle.cn_amount.specs.declared.before.Before.TheVariants.{Nothing, Gap, Filled}
use Rattle.cn_amount.specs.declared.capital.Capital.{Capital}
use Rattle.cn_amount.specs.declared.capital.Capital.TheVariants.{Ling, Digit, Shi, Bai, Qian, Wan, Yi, Yuan, Jiao, Fen, Zheng, Ren, Min, Bi}
use Rattle.cn_amount.specs.declared.form.AmountForm.{AmountForm}
use Rattle.cn_amount.specs.declared.places.Section.{Section}
use Rattle.cn_amount.specs.declared.places.Places.{Places}

-- what the rules leave open
pub record Choices : Type 0 where
  -- 人民币 at the start
  pub currency : Bool
  -- 零元 if there are no yuan, but jiao or fen
  pub no_yuan : Bool
  -- 零 after the 万 of 万亿, after 亿, after 万 or after 元, if the digit at the place of that unit
  -- is 0 and the next one is not
  pub behind_wan_yi : Bool
  pub behind_yi : Bool
  pub behind_wan : Bool
  pub behind_yuan : Bool
  -- 整 after 角
  pub behind_jiao : Bool

-- the choices of the form that is written, which both rules allow for every amount
abbrev pub written : Choices
written = record {
  currency = false;
  no_yuan = false;
  behind_wan_yi = true;
  behind_yi = true;
  behind_wan = true;
  behind_yuan = false;
  behind_jiao = true;
}

-- the same choices, with 人民币 at the start if the form has it
abbrev pub written_as : AmountForm → Choices
written_as form = record {
  currency = form.currency;
  no_yuan = written.no_yuan;
  behind_wan_yi = written.behind_wan_yi;
  behind_yi = written.behind_yi;
  behind_wan = written.behind_wan;
  behind_yuan = written.behind_yuan;
  behind_jiao = written.behind_jiao;
}

-- the number is 0
abbrev pub is_zero : ℕ → Bool
is_zero zero = true
is_zero (suc n) = false

-- what is before the next place, after this digit
abbrev pub after_digit : Before → ℕ → Before
after_digit before (suc n) = Filled
after_digit Nothing zero = Nothing
after_digit Gap zero = Gap
after_digit Filled zero = Gap

-- something is written yet
abbrev pub is_written : Before → Bool
is_written Nothing = false
is_written Gap = true
is_written Filled = true

-- the text of a place, with its unit if it has one; it is empty if the digit is 0
abbrev pub place_text : Before → ℕ → List Capital → List Capital
place_text before zero unit = []
place_text Nothing (suc n) unit = Digit (suc n) ∷ unit
place_text Gap (suc n) unit = Ling ∷ Digit (suc n) ∷ unit
place_text Filled (suc n) unit = Digit (suc n) ∷ unit

-- the text of several places one after the other, from the top; each is a digit and its unit
abbrev pub places_text : Before → List (ℕ × List Capital) → List Capital
places_text before [] = []
places_text before (place ∷ rest) =
    place_text before place.0 place.1 ++ places_text (after_digit before place.0) rest

-- what is before the place that follows these places
abbrev pub after_places : Before → List (ℕ × List Capital) → Before
after_places before [] = before
after_places before (place ∷ rest) = after_places (after_digit before place.0) rest

-- the digit of each of these places is 0
abbrev pub are_zero : List (ℕ × List Capital) → Bool
are_zero [] = true
are_zero (place ∷ rest) = is_zero place.0 && are_zero rest

-- the four places of a section, such as 0, 4, 0 and 9 for 肆佰零玖
abbrev pub places_in : Section → List (ℕ × List Capital)
places_in s =
    (s.thousands, Qian ∷ []) ∷ (s.hundreds, Bai ∷ []) ∷ (s.tens, Shi ∷ []) ∷ (s.ones, []) ∷ []

-- the text of a section
abbrev pub section_text : Before → Section → List Capital
section_text before s = places_text before (places_in s)

-- what is before the place that follows a section
abbrev pub after_section : Before → Section → Before
after_section before s = after_places before (places_in s)

-- each digit of a section is 0
abbrev pub is_empty : Section → Bool
is_empty s = are_zero (places_in s)

-- what is before the place that follows a unit above 仟: a 0 at the place of the unit counts as
-- one, or it does not. If the next digit is 0 too, there is a 零 in any case.
abbrev pub behind : Bool → Before → Before
behind true before = before
behind false Nothing = Nothing
behind false before = Filled

-- the unit of a section if it counts something, and otherwise nothing
abbrev pub unit_text : Bool → Capital → List Capital
unit_text true unit = unit ∷ []
unit_text false unit = []

-- what is before the place that follows that unit
abbrev pub after_unit : Bool → Bool → Before → Before
after_unit true keeps before = behind keeps before
after_unit false keeps before = before

-- the text of a section that 万 counts, with 万 if the section is not empty
abbrev pub wan_text : Before → Section → List Capital
wan_text before s = section_text before s ++ unit_text (not (is_empty s)) Wan

-- what is before the place that follows it
abbrev pub after_wan : Bool → Before → Section → Before
after_wan keeps before s = after_unit (not (is_empty s)) keeps (after_section before s)

-- the text of a section that 亿 counts, with 亿 if it or anything before it is not empty
abbrev pub yi_text : Before → Section → List Capital
yi_text before s = section_text before s ++ unit_text (is_written (after_section before s)) Yi

-- what is before the place that follows it
abbrev pub after_yi : Bool → Before → Section → Before
after_yi keeps before s =
    after_unit (is_written (after_section before s)) keeps (after_section before s)

-- the text of 元; if there are no yuan it is 零元 or nothing
abbrev pub yuan_unit : Before → Bool → List Capital
yuan_unit Nothing true = Ling ∷ Yuan ∷ []
yuan_unit Nothing false = []
yuan_unit Gap named = Yuan ∷ []
yuan_unit Filled named = Yuan ∷ []

-- what is before the jiao
abbrev pub after_yuan_unit : Bool → Before → Bool → Before
after_yuan_unit keeps Nothing true = behind keeps Gap
after_yuan_unit keeps Nothing false = Nothing
after_yuan_unit keeps Gap named = behind keeps Gap
after_yuan_unit keeps Filled named = Filled

-- what closes an amount, so that nothing can be added: 整 if there are no fen
abbrev pub closing : ℕ → ℕ → Bool → List Capital
closing jiao (suc n) closes = []
closing zero zero closes = Zheng ∷ []
closing (suc n) zero true = Zheng ∷ []
closing (suc n) zero false = []

-- the places of the jiao and the fen
abbrev pub small_places : ℕ → ℕ → List (ℕ × List Capital)
small_places jiao fen = (jiao, Jiao ∷ []) ∷ (fen, Fen ∷ []) ∷ []

-- the text of the jiao and the fen, and what closes them
abbrev pub small_text : Before → ℕ → ℕ → Bool → List Capital
small_text before jiao fen closes =
    places_text before (small_places jiao fen) ++ closing jiao fen closes

-- the text of the yuan below 万, of 元, and of the rest
abbrev pub from_yuan : Choices → Before → Places → List Capital
from_yuan choices before p =
    let after = after_section before p.yuan in
    let named = choices.no_yuan || are_zero (small_places p.jiao p.fen) in
    section_text before p.yuan
    ++ (yuan_unit after named
    ++ small_text (after_yuan_unit choices.behind_yuan after named) p.jiao p.fen
    choices.behind_jiao)

-- the text from the section of 万 on
abbrev pub from_wan : Choices → Before → Places → List Capital
from_wan choices before p =
    wan_text before p.wan
    ++ from_yuan choices (after_wan choices.behind_wan before p.wan) p

-- the text from the section of 亿 on
abbrev pub from_yi : Choices → Before → Places → List Capital
from_yi choices before p =
    yi_text before p.yi ++ from_wan choices (after_yi choices.behind_yi before p.yi) p

-- the text from the section of 万亿 on
abbrev pub from_top : Choices → Places → List Capital
from_top choices p =
    wan_text Nothing p.wan_yi ++ from_yi choices (after_wan choices.behind_wan_yi Nothing p.wan_yi)
    p

-- a form of an amount, given its digits and the choices
abbrev pub amount_form : Choices → Places → List Capital
amount_form choices p =
    (if choices.currency then Ren ∷ Min ∷ Bi ∷ [] else []) ++ from_top choices p
