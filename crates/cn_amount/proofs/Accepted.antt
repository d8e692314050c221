-- Each text that is written along the ways is a form, and so is each text that is read to its end.
use Rattle.std.proofs.Common.{◌≡◌, ℕ, zero, suc, ◌<◌, Bool, true, false, not, ◌&&◌, ◌||◌, nat_lt, ◌⊎◌, inl, inr, List, [], ◌∷◌, ◌++◌, map, Some, None, refl, sym, ap, ap₂, ◌∙◌, append-nil, append_assoc, arith, if◌then◌else◌}
use Rattle.std.specs.List.{list_all}
use Rattle.std.proofs.Math.Bool.{and-true, and-false, or-true}
use Rattle.std.proofs.lemmas.Bool.Decides.{nat_tests}
use Rattle.cn_core.proofs.Fronts.{and-left, and-right}
use Rattle.cn_amount.specs.declared.before.Before.{Before}
use Rattle.cn_amount.specs.declared.before.Before.TheVariants.{Nothing, Gap, Filled}
use Rattle.cn_amount.specs.declared.capital.Capital.{Capital}
use Rattle.cn_amount.specs.declared.capital.Capital.TheVariants.{Ling, Digit, Wan, Yi, Yuan, Zheng, Ren, Min, Bi}
use Rattle.cn_amount.specs.declared.places.Section.{Section}
use Rattle.cn_amount.specs.declared.places.Places.{Places}
use Rattle.cn_amount.specs.declared.state.State.TheVariants.{Beginning}
use Rattle.cn_amount.specs.Form.{Choices, written, is_empty, is_written, are_zero, after_digit, after_places, after_section, after_unit, after_yuan_unit, behind, closing, place_text, places_text, small_places, small_text, section_text, unit_text, yuan_unit, from_yuan, from_wan, from_yi, from_top, amount_form}
use Rattle.cn_amount.specs.Places.{AreDigits, ArePlaces}
use Rattle.cn_amount.specs.Working.Steps.{accepts}
use Rattle.cn_amount.proofs.Points.{Part, wan_yi, yi, wan, yuan, small, known, either, Point, Way, at, start, finish, units_of, behind_unit, digit_way, place_ways, front_ways, unit_ways, close_of, ways, opened, fits, spells, spells-first, spells-cases, none-spelled, fits-is}
use Rattle.cn_amount.proofs.States.{is_proper, reads-ways}

abbrev are_proper : List Capital → Bool
are_proper t = list_all is_proper t

-- a text that begins with these capitals and continues from a point
record Begins (word : List Capital) (p : Point) (t : List Capital) : Type 0 where
  rest : List Capital
  is : t ≡ word ++ rest
  goes_on : spells (ways p) rest ≡ true
  proper : are_proper rest ≡ true

word-read : (word : List Capital) (p : Point) (t : List Capital) → are_proper t ≡ true
    → spells (opened (map Some word, p)) t ≡ true → Begins word p t
word-read [] p t proper h = record { rest = t; is = refl; goes_on = h; proper = proper }
word-read (c ∷ word) p [] proper h = cc
word-read (c ∷ word) p (x ∷ t) proper h =
    by (fits (Some c) x) refl h (λ k. word-read word p t (and-right (is_proper x) _ proper) k) where
      by : (b : Bool) → fits (Some c) x ≡ b
          → spells (elim b [ true ↦ opened (map Some word, p) | false ↦ [] ] ++ []) t ≡ true
          → (spells (opened (map Some word, p)) t ≡ true → Begins word p t)
          → Begins (c ∷ word) p (x ∷ t)
      by false e h ih = let none = none-spelled t in cc
      by true e h ih =
          let r = ih (ap (λ more. spells more t) (sym (append-nil (opened (map Some word, p)))) ∙ h) in
          let first : x ≡ c = fits-is c x e in
          record {
            rest = r.rest;
            is = ap (λ x. x ∷ t) first ∙ ap (λ t. c ∷ t) r.is;
            goes_on = r.goes_on;
            proper = r.proper;
          }

-- a text that begins with a digit and its unit
record BeginsDigit (part : Part) (unit : List Capital) (units : List (List Capital))
    (before : Before) (t : List Capital) : Type 0 where
  less : ℕ
  low : suc less < 10
  rest : List Capital
  is : t ≡ place_text before (suc less) unit ++ rest
  goes_on : spells (ways (at part units Filled false)) rest ≡ true
  proper : are_proper rest ≡ true

digit-low : (n : ℕ) (t : List Capital) → are_proper (Digit (suc n) ∷ t) ≡ true → suc n < 10
digit-low n t p = let low : nat_lt (suc n) 10 ≡ true =
    and-right (nat_lt 0 (suc n)) _ (and-left (is_proper (Digit (suc n))) _ p)
    in grind (arith, nat_tests)

plain-digit : (part : Part) (unit : List Capital) (units : List (List Capital)) (t : List Capital)
    → are_proper t ≡ true
    → spells ((None ∷ map Some unit, at part units Filled false) ∷ []) t ≡ true
    → BeginsDigit part unit units Filled t
plain-digit part unit units [] proper h = cc
plain-digit part unit units (Digit zero ∷ t) proper h = cc
plain-digit part unit units (Digit (suc n) ∷ t) proper h =
    let p = at part units Filled false in
    let r = word-read unit p t (and-right (is_proper (Digit (suc n))) _ proper)
    (ap (λ more. spells more t) (sym (append-nil (opened (map Some unit, p)))) ∙ h) in
    record {
      less = n;
      low = digit-low n t proper;
      rest = r.rest;
      is = ap (λ t. Digit (suc n) ∷ t) r.is;
      goes_on = r.goes_on;
      proper = r.proper;
    }
plain-digit part unit units (x ∷ t) proper h = let none = none-spelled t in cc

digit-read : (part : Part) (unit : List Capital) (units : List (List Capital)) (before : Before)
    (t : List Capital) → are_proper t ≡ true
    → spells (digit_way part unit units before ∷ []) t ≡ true
    → BeginsDigit part unit units before t
digit-read part unit units Filled t proper h = plain-digit part unit units t proper h
digit-read part unit units Nothing t proper h =
    let r = plain-digit part unit units t proper h in
    record { less = r.less; low = r.low; rest = r.rest; is = r.is; goes_on = r.goes_on; proper = r.proper }
digit-read part unit units Gap [] proper h = cc
digit-read part unit units Gap (Ling ∷ t) proper h =
    let r = plain-digit part unit units t (and-right true _ proper) h in
    record {
      less = r.less;
      low = r.low;
      rest = r.rest;
      is = ap (λ t. Ling ∷ t) r.is;
      goes_on = r.goes_on;
      proper = r.proper;
    }
digit-read part unit units Gap (x ∷ t) proper h = let none = none-spelled t in cc

-- a list of digits, one for each unit
abbrev Digits : List (List Capital) → Type 0
Digits [] = Unit {0}
Digits (unit ∷ units) = ℕ × Digits units

abbrev placed : (units : List (List Capital)) → Digits units → List (ℕ × List Capital)
placed [] digits = []
placed (unit ∷ units) digits = (digits.0, unit) ∷ placed units digits.1

abbrev AreLow : (units : List (List Capital)) → Digits units → Type 0
AreLow [] digits = Unit {0}
AreLow (unit ∷ units) digits = (digits.0 < 10) × AreLow units digits.1

-- a text that begins with the places of a part
record BeginsPlaces (part : Part) (units : List (List Capital)) (before : Before) (empty : Bool)
    (t : List Capital) : Type 0 where
  digits : Digits units
  low : AreLow units digits
  rest : List Capital
  is : t ≡ places_text before (placed units digits) ++ rest
  closes : spells (close_of part (after_places before (placed units digits))
      (empty && are_zero (placed units digits))) rest ≡ true
  proper : are_proper rest ≡ true

places-read : (part : Part) (units : List (List Capital)) (before : Before) (empty : Bool)
    (t : List Capital) → are_proper t ≡ true
    → spells (place_ways (close_of part) part units before empty) t ≡ true
    → BeginsPlaces part units before empty t
places-read part [] before empty t proper h = record {
  digits = tt;
  low = tt;
  rest = t;
  is = refl;
  closes = ap (λ b. spells (close_of part before b) t) (and-true empty) ∙ h;
  proper = proper;
}
places-read part (unit ∷ units) before empty t proper h =
    by (spells-cases (digit_way part unit units before ∷ [])
    (place_ways (close_of part) part units (after_digit before 0) empty) t h)
    (λ t proper h. places-read part units Filled false t proper h)
    (λ h. places-read part units (after_digit before 0) empty t proper h) where
      by : (spells (digit_way part unit units before ∷ []) t ≡ true)
          ⊎ (spells (place_ways (close_of part) part units (after_digit before 0) empty) t ≡ true)
          → ((t : List Capital) → are_proper t ≡ true
          → spells (place_ways (close_of part) part units Filled false) t ≡ true
          → BeginsPlaces part units Filled false t)
          → (spells (place_ways (close_of part) part units (after_digit before 0) empty) t ≡ true
          → BeginsPlaces part units (after_digit before 0) empty t)
          → BeginsPlaces part (unit ∷ units) before empty t
      by (inl first) filled zeros =
          let d = digit-read part unit units before t proper first in
          let r = filled d.rest d.proper d.goes_on in
          record {
            digits = (suc d.less, r.digits);
            low = (d.low, r.low);
            rest = r.rest;
            is = d.is ∙ ap (λ l. place_text before (suc d.less) unit ++ l) r.is
                ∙ sym (append_assoc (place_text before (suc d.less) unit)
                (places_text Filled (placed units r.digits)) r.rest);
            closes = ap (λ b. spells (close_of part
                (after_places Filled (placed units r.digits)) b) r.rest) (and-false empty) ∙ r.closes;
            proper = r.proper;
          }
      by (inr more) filled zeros =
          let r = zeros more in
          record {
            digits = (0, r.digits);
            low = (omega arith, r.low);
            rest = r.rest;
            is = r.is;
            closes = r.closes;
            proper = r.proper;
          }

-- if a 0 at the place of the unit may count, it does or it does not
either-read : (part : Part) (units : List (List Capital)) (empty : Bool) (t : List Capital)
    → spells (front_ways (close_of part) part units either empty) t ≡ true
    → (keeps : Bool)
    × (spells (place_ways (close_of part) part units (behind keeps Gap) empty) t ≡ true)
either-read part [] empty t h =
    elim (spells-cases (close_of part Filled empty) (close_of part Gap empty) t h) [
      | inl first ↦ (false, first)
      | inr more ↦ (true, more)
    ]
either-read part (unit ∷ units) empty t h =
    let filled = digit_way part unit units Filled ∷ [] in
    let rest = place_ways (close_of part) part units Gap empty in
    elim (spells-cases filled (digit_way part unit units Gap ∷ rest) t h) [
      | inl first ↦ (false, spells-first filled rest t first)
      | inr more ↦ (true, more)
    ]

front-read : (part : Part) (before : Before) (t : List Capital)
    → spells (ways (start part (behind_unit before))) t ≡ true
    → (keeps : Bool) × (spells (ways (start part (known (behind keeps before)))) t ≡ true)
front-read part Gap t h = either-read part (units_of part) true t h
front-read part Nothing t h = (true, h)
front-read part Filled t h = (true, h)

-- a text that begins with the unit of a section and continues with the next part
record BeginsUnit (part : Part) (unit : Capital) (counts : Bool) (before : Before)
    (t : List Capital) : Type 0 where
  keeps : Bool
  rest : List Capital
  is : t ≡ unit_text counts unit ++ rest
  goes_on : spells (ways (start part (known (after_unit counts keeps before)))) rest ≡ true
  proper : are_proper rest ≡ true

unit-read : (part : Part) (unit : Capital) (counts : Bool) (before : Before) (t : List Capital)
    → are_proper t ≡ true → spells (unit_ways (close_of part) part unit counts before) t ≡ true
    → BeginsUnit part unit counts before t
unit-read part unit true before t proper h =
    let r = word-read (unit ∷ []) (start part (behind_unit before)) t proper h in
    let front = front-read part before r.rest r.goes_on in
    record { keeps = front.0; rest = r.rest; is = r.is; goes_on = front.1; proper = r.proper }
unit-read part unit false before t proper h =
    record { keeps = true; rest = t; is = refl; goes_on = h; proper = proper }

-- a text that is a form, or the rest of one from a part on
pub record IsForm (form : Choices → Places → List Capital) (t : List Capital) : Type 0 where
  pub choices : Choices
  pub places : Places
  pub digits : ArePlaces places
  pub is : t ≡ form choices places

-- a text that is jiao and fen with what closes them, after something that is written
record IsSmall (before : Before) (t : List Capital) : Type 0 where
  jiao : ℕ
  fen : ℕ
  low_jiao : jiao < 10
  low_fen : fen < 10
  closes : Bool
  is : t ≡ small_text before jiao fen closes
  some : (is_written before || not (are_zero (small_places jiao fen))) ≡ true

small-read : (before : Before) (t : List Capital) → are_proper t ≡ true
    → spells (ways (start small (known before))) t ≡ true → IsSmall before t
small-read before t proper h =
    let r = places-read small (units_of small) before true t proper h in
    let c = closing-read before r.digits.0 r.digits.1.0 r.rest r.proper r.closes in
    record {
      jiao = r.digits.0;
      fen = r.digits.1.0;
      low_jiao = r.low.0;
      low_fen = r.low.1.0;
      closes = c.0;
      is = r.is ∙ ap (λ l. places_text before (small_places r.digits.0 r.digits.1.0) ++ l) c.1;
      some = c.2;
    } where
      nothing-more : (t : List Capital) → spells (([], finish) ∷ []) t ≡ true → t ≡ []
      nothing-more [] h = refl
      nothing-more (x ∷ t) h = let none = none-spelled t in cc

      zheng-read : (t : List Capital) → are_proper t ≡ true
          → spells ((Some Zheng ∷ [], finish) ∷ []) t ≡ true → t ≡ Zheng ∷ []
      zheng-read t proper h =
          let r = word-read (Zheng ∷ []) finish t proper h in
          r.is ∙ ap (λ t. Zheng ∷ t) (nothing-more r.rest r.goes_on)

      closing-read : (before : Before) (jiao fen : ℕ) (t : List Capital) → are_proper t ≡ true
          → spells (close_of small (after_places before (small_places jiao fen))
          (are_zero (small_places jiao fen))) t ≡ true
          → (closes : Bool) × (t ≡ closing jiao fen closes)
          × ((is_written before || not (are_zero (small_places jiao fen))) ≡ true)
      closing-read Nothing zero zero t proper h = let none = none-spelled t in cc
      closing-read Gap zero zero t proper h = (true, zheng-read t proper h, refl)
      closing-read Filled zero zero t proper h = (true, zheng-read t proper h, refl)
      closing-read before (suc j) zero t proper h =
          elim (spells-cases (([], finish) ∷ []) ((Some Zheng ∷ [], finish) ∷ []) t h) [
            | inl none ↦ (false, nothing-more t none, or-true (is_written before))
            | inr closes ↦ (true, zheng-read t proper closes, or-true (is_written before))
          ]
      closing-read before zero (suc f) t proper h =
          (true, nothing-more t h, or-true (is_written before))
      closing-read before (suc j) (suc f) t proper h =
          (true, nothing-more t h, or-true (is_written before))

no-digits : AreDigits (record { thousands = 0; hundreds = 0; tens = 0; ones = 0 })
no-digits = (omega arith, omega arith, omega arith, omega arith)

-- the amount that has only jiao and fen
abbrev small_alone : ℕ → ℕ → Places
small_alone jiao fen =
    let none : Section = record { thousands = 0; hundreds = 0; tens = 0; ones = 0 } in
    record { wan_yi = none; yi = none; wan = none; yuan = none; jiao = jiao; fen = fen }

-- 元 and the text after it
abbrev yuan_rest : Before → Choices → Places → List Capital
yuan_rest after choices p =
    let named = choices.no_yuan || are_zero (small_places p.jiao p.fen) in
    yuan_unit after named
    ++ small_text (after_yuan_unit choices.behind_yuan after named) p.jiao p.fen
    choices.behind_jiao

unit-then : (after before : Before) (no_yuan keeps : Bool) (word t rest : List Capital)
    → t ≡ word ++ rest → (r : IsSmall before rest)
    → ((none : Bool) → are_zero (small_places r.jiao r.fen) ≡ none
    → (yuan_unit after (no_yuan || none) ≡ word)
    × (after_yuan_unit keeps after (no_yuan || none) ≡ before))
    → IsForm (yuan_rest after) t
unit-then after before no_yuan keeps word t rest is r unit =
    let named = unit (are_zero (small_places r.jiao r.fen)) refl in
    record {
      choices = record written { no_yuan = no_yuan; behind_yuan = keeps; behind_jiao = r.closes };
      places = small_alone r.jiao r.fen;
      digits = (no-digits, no-digits, no-digits, no-digits, r.low_jiao, r.low_fen);
      is = is ∙ ap (λ l. word ++ l) r.is
          ∙ sym (ap₂ (λ (word : List Capital) (before : Before).
          word ++ small_text before r.jiao r.fen r.closes) named.0 named.1);
    }

yuan-unit-read : (after : Before) (empty : Bool) (t : List Capital) → are_proper t ≡ true
    → spells (close_of yuan after empty) t ≡ true → IsForm (yuan_rest after) t
yuan-unit-read after empty t proper h = by after h where
  behind-word : (after before : Before) (no_yuan : Bool) (word : List Capital)
      → ((keeps none : Bool) → (yuan_unit after (no_yuan || none) ≡ word)
      × (after_yuan_unit keeps after (no_yuan || none) ≡ behind keeps before))
      → spells (opened (map Some word, start small (behind_unit before))) t ≡ true
      → IsForm (yuan_rest after) t
  behind-word after before no_yuan word unit h =
      let r = word-read word (start small (behind_unit before)) t proper h in
      let front = front-read small before r.rest r.goes_on in
      unit-then after (behind front.0 before) no_yuan front.0 word t r.rest r.is
      (small-read (behind front.0 before) r.rest r.proper front.1)
      (λ none e. unit front.0 none)

  filled-behind : (keeps : Bool) → Filled ≡ behind keeps Filled
  filled-behind true = refl
  filled-behind false = refl

  by : (after : Before) → spells (close_of yuan after empty) t ≡ true → IsForm (yuan_rest after) t
  by Nothing h =
      elim (spells-cases ((Some Ling ∷ Some Yuan ∷ [], start small either) ∷ [])
      (ways (start small (known Nothing))) t h) [
        | inl named ↦ behind-word Nothing Gap true (Ling ∷ Yuan ∷ []) (λ keeps none. (refl, refl)) named
        | inr not_named ↦
            let r = small-read Nothing t proper not_named in
            unit-then Nothing Nothing false true [] t t refl r (λ none e. by-none r none e)
      ] where
        by-none : (r : IsSmall Nothing t) (none : Bool) → are_zero (small_places r.jiao r.fen) ≡ none
            → (yuan_unit Nothing none ≡ []) × (after_yuan_unit true Nothing none ≡ Nothing)
        by-none r true e =
            let some = r.some in
            let no : not (are_zero (small_places r.jiao r.fen)) ≡ false = ap not e in
            absurd (cc)
        by-none r false e = (refl, refl)
  by Gap h = behind-word Gap Gap false (Yuan ∷ []) (λ keeps none. (refl, refl)) h
  by Filled h = behind-word Filled Filled false (Yuan ∷ [])
      (λ keeps none. (refl, filled-behind keeps)) h

-- the four digits of a section
abbrev Four : Type 0
Four = Digits (units_of wan)

abbrev section_by : Four → Section
section_by d = record { thousands = d.0; hundreds = d.1.0; tens = d.1.1.0; ones = d.1.1.1.0 }

-- a text of three pieces, one after the other
joined : (t first rest second last below : List Capital) → t ≡ first ++ rest
    → rest ≡ second ++ last → last ≡ below → t ≡ (first ++ second) ++ below
joined t first rest second last below a b c =
    a ∙ ap (λ l. first ++ l) (b ∙ ap (λ l. second ++ l) c) ∙ sym (append_assoc first second below)

abbrev are_low : (d : Four) → AreLow (units_of wan) d → AreDigits (section_by d)
are_low d low = (low.0, low.1.0, low.1.1.0, low.1.1.1.0)

-- the texts from the section of the yuan on
from-yuan : (before : Before) (t : List Capital) → are_proper t ≡ true
    → spells (ways (start yuan (known before))) t ≡ true
    → IsForm (λ choices p. from_yuan choices before p) t
from-yuan before t proper h =
    let r = places-read yuan (units_of yuan) before true t proper h in
    let s = section_by r.digits in
    let u = yuan-unit-read (after_section before s) (is_empty s) r.rest r.proper r.closes in
    let d = u.digits in
    record {
      choices = u.choices;
      places = record u.places { yuan = s };
      digits = (d.0, d.1, d.2, are_low r.digits r.low, d.4, d.5);
      is = r.is ∙ ap (λ l. section_text before s ++ l) u.is;
    }

from-wan : (before : Before) (t : List Capital) → are_proper t ≡ true
    → spells (ways (start wan (known before))) t ≡ true
    → IsForm (λ choices p. from_wan choices before p) t
from-wan before t proper h =
    let r = places-read wan (units_of wan) before true t proper h in
    let s = section_by r.digits in
    let after = after_section before s in
    let counts = not (is_empty s) in
    let u = unit-read yuan Wan counts after r.rest r.proper r.closes in
    let below = from-yuan (after_unit counts u.keeps after) u.rest u.proper u.goes_on in
    let d = below.digits in
    record {
      choices = record below.choices { behind_wan = u.keeps };
      places = record below.places { wan = s };
      digits = (d.0, d.1, are_low r.digits r.low, d.3, d.4, d.5);
      is = joined t (section_text before s) r.rest (unit_text counts Wan) u.rest
          (from_yuan below.choices (after_unit counts u.keeps after) below.places) r.is u.is below.is;
    }

from-yi : (before : Before) (t : List Capital) → are_proper t ≡ true
    → spells (ways (start yi (known before))) t ≡ true
    → IsForm (λ choices p. from_yi choices before p) t
from-yi before t proper h =
    let r = places-read yi (units_of yi) before true t proper h in
    let s = section_by r.digits in
    let after = after_section before s in
    let counts = is_written after in
    let u = unit-read wan Yi counts after r.rest r.proper r.closes in
    let below = from-wan (after_unit counts u.keeps after) u.rest u.proper u.goes_on in
    let d = below.digits in
    record {
      choices = record below.choices { behind_yi = u.keeps };
      places = record below.places { yi = s };
      digits = (d.0, are_low r.digits r.low, d.2, d.3, d.4, d.5);
      is = joined t (section_text before s) r.rest (unit_text counts Yi) u.rest
          (from_wan below.choices (after_unit counts u.keeps after) below.places) r.is u.is below.is;
    }

from-top : (t : List Capital) → are_proper t ≡ true
    → spells (ways (start wan_yi (known Nothing))) t ≡ true → IsForm from_top t
from-top t proper h =
    let r = places-read wan_yi (units_of wan_yi) Nothing true t proper h in
    let s = section_by r.digits in
    let after = after_section Nothing s in
    let counts = not (is_empty s) in
    let u = unit-read yi Wan counts after r.rest r.proper r.closes in
    let below = from-yi (after_unit counts u.keeps after) u.rest u.proper u.goes_on in
    let d = below.digits in
    record {
      choices = record below.choices { behind_wan_yi = u.keeps };
      places = record below.places { wan_yi = s };
      digits = (are_low r.digits r.low, d.1, d.2, d.3, d.4, d.5);
      is = joined t (section_text Nothing s) r.rest (unit_text counts Wan) u.rest
          (from_yi below.choices (after_unit counts u.keeps after) below.places) r.is u.is below.is;
    }

with-currency : (currency : Bool) (front t rest : List Capital)
    → front ≡ (if currency then Ren ∷ Min ∷ Bi ∷ [] else []) → t ≡ front ++ rest
    → IsForm from_top rest → IsForm amount_form t
with-currency currency front t rest e is r = record {
  choices = record r.choices { currency = currency };
  places = r.places;
  digits = r.digits;
  is = is ∙ ap₂ (λ (front rest : List Capital). front ++ rest) e r.is;
}

pub accepted : (t : List Capital) → are_proper t ≡ true → accepts Beginning t ≡ true
    → IsForm amount_form t
accepted t proper h =
    let top = start wan_yi (known Nothing) in
    let currency : List Way = (Some Ren ∷ Some Min ∷ Some Bi ∷ [], top) ∷ [] in
    elim (spells-cases currency (ways top) t (sym (reads-ways Beginning t) ∙ h)) [
      | inl named ↦
          let r = word-read (Ren ∷ Min ∷ Bi ∷ []) top t proper named in
          with-currency true (Ren ∷ Min ∷ Bi ∷ []) t r.rest refl r.is
          (from-top r.rest r.proper r.goes_on)
      | inr plain ↦ with-currency false [] t t refl refl (from-top t proper plain)
    ]
