-- Each form is written along the ways, and so it is read to its end.
use Rattle.std.proofs.Common.{◌≡◌, ℕ, zero, suc, Bool, true, false, not, ◌&&◌, ◌||◌, inl, inr, List, [], ◌∷◌, ◌++◌, map, Some, refl, sym, ap, ◌∙◌, append-nil, append_assoc, if◌then◌else◌}
use Rattle.std.proofs.Math.Bool.{and-true, and-false}
use Rattle.cn_amount.specs.declared.before.Before.{Before}
use Rattle.cn_amount.specs.declared.before.Before.TheVariants.{Nothing, Gap, Filled}
use Rattle.cn_amount.specs.declared.capital.Capital.{Capital}
use Rattle.cn_amount.specs.declared.capital.Capital.TheVariants.{Ling, Wan, Yi, Yuan, Ren, Min, Bi}
use Rattle.cn_amount.specs.declared.places.Section.{Section}
use Rattle.cn_amount.specs.declared.places.Places.{Places}
use Rattle.cn_amount.specs.declared.state.State.TheVariants.{Beginning}
use Rattle.cn_amount.specs.Form.{Choices, is_empty, is_written, are_zero, after_digit, after_places, after_section, after_unit, after_yuan_unit, behind, closing, place_text, places_text, places_in, small_places, small_text, section_text, unit_text, yuan_unit, from_yuan, from_wan, from_yi, from_top, amount_form}
use Rattle.cn_amount.specs.Working.Steps.{accepts}
use Rattle.cn_amount.proofs.Points.{Part, wan_yi, yi, wan, yuan, small, known, either, Point, Way, at, start, units_of, behind_unit, digit_way, place_ways, front_ways, unit_ways, close_of, ways, opened, spells, spells-first, spells-more, spells-cases, fits-self}
use Rattle.cn_amount.proofs.States.{reads-ways}

-- the capitals that come next, and the text after them
word-spelled : (word : List Capital) (p : Point) (t : List Capital)
    → spells (opened (map Some word, p)) (word ++ t) ≡ spells (ways p) t
word-spelled [] p t = refl
word-spelled (c ∷ word) p t =
    ap (λ b. spells (elim b [ true ↦ opened (map Some word, p) | false ↦ [] ] ++ []) (word ++ t))
    (fits-self c)
    ∙ ap (λ more. spells more (word ++ t)) (append-nil (opened (map Some word, p)))
    ∙ word-spelled word p t

digit-spelled : (part : Part) (unit : List Capital) (units : List (List Capital))
    (before : Before) (n : ℕ) (t : List Capital) → spells (ways (at part units Filled false)) t ≡ true
    → spells (digit_way part unit units before ∷ []) (place_text before (suc n) unit ++ t) ≡ true
digit-spelled part unit units before n t h = by before where
  p : Point
  p = at part units Filled false

  plain : spells (opened (map Some unit, p) ++ []) (unit ++ t) ≡ true
  plain = ap (λ more. spells more (unit ++ t)) (append-nil (opened (map Some unit, p)))
      ∙ word-spelled unit p t ∙ h

  by : (before : Before) → spells (digit_way part unit units before ∷ [])
      (place_text before (suc n) unit ++ t) ≡ true
  by Nothing = plain
  by Gap = plain
  by Filled = plain

-- places
abbrev units_in : List (ℕ × List Capital) → List (List Capital)
units_in [] = []
units_in (place ∷ rest) = place.1 ∷ units_in rest

places-spelled : (part : Part) (places : List (ℕ × List Capital)) (before : Before) (empty : Bool)
    (t : List Capital)
    → spells (close_of part (after_places before places) (empty && are_zero places)) t ≡ true
    → spells (place_ways (close_of part) part (units_in places) before empty)
    (places_text before places ++ t) ≡ true
places-spelled part [] before empty t h =
    ap (λ b. spells (close_of part before b) t) (sym (and-true empty)) ∙ h
places-spelled part ((zero, unit) ∷ places) before empty t h =
    spells-more (digit_way part unit (units_in places) before ∷ [])
    (place_ways (close_of part) part (units_in places) (after_digit before 0) empty)
    (places_text (after_digit before 0) places ++ t)
    (places-spelled part places (after_digit before 0) empty t h)
places-spelled part ((suc n, unit) ∷ places) before empty t h =
    let rest = places-spelled part places Filled false t
    (ap (λ b. spells (close_of part (after_places Filled places) b) t) (sym (and-false empty))
    ∙ h) in
    ap (spells (place_ways (close_of part) part (unit ∷ units_in places) before empty))
    (append_assoc (place_text before (suc n) unit) (places_text Filled places) t)
    ∙ spells-first (digit_way part unit (units_in places) before ∷ [])
    (place_ways (close_of part) part (units_in places) (after_digit before 0) empty)
    (place_text before (suc n) unit ++ (places_text Filled places ++ t))
    (digit-spelled part unit (units_in places) before n (places_text Filled places ++ t) rest)

-- a 0 at the place of the unit may count
either-spelled : (part : Part) (units : List (List Capital)) (keeps empty : Bool) (t : List Capital)
    → spells (place_ways (close_of part) part units (behind keeps Gap) empty) t ≡ true
    → spells (front_ways (close_of part) part units either empty) t ≡ true
either-spelled part [] true empty t h =
    spells-more (close_of part Filled empty) (close_of part Gap empty) t h
either-spelled part [] false empty t h =
    spells-first (close_of part Filled empty) (close_of part Gap empty) t h
either-spelled part (unit ∷ units) true empty t h =
    spells-more (digit_way part unit units Filled ∷ [])
    (digit_way part unit units Gap ∷ place_ways (close_of part) part units Gap empty) t h
either-spelled part (unit ∷ units) false empty t h =
    let rest = place_ways (close_of part) part units Gap empty in
    elim (spells-cases (digit_way part unit units Filled ∷ []) rest t h) [
      | inl first ↦ spells-first (digit_way part unit units Filled ∷ [])
          (digit_way part unit units Gap ∷ rest) t first
      | inr more ↦ spells-more (digit_way part unit units Filled ∷ digit_way part unit units Gap ∷ [])
          rest t more
    ]

front-spelled : (part : Part) (before : Before) (keeps : Bool) (t : List Capital)
    → spells (ways (start part (known (behind keeps before)))) t ≡ true
    → spells (ways (start part (behind_unit before))) t ≡ true
front-spelled part Gap keeps t h = either-spelled part (units_of part) keeps true t h
front-spelled part Nothing true t h = h
front-spelled part Nothing false t h = h
front-spelled part Filled true t h = h
front-spelled part Filled false t h = h

unit-spelled : (part : Part) (unit : Capital) (counts keeps : Bool) (before : Before)
    (t : List Capital)
    → spells (ways (start part (known (after_unit counts keeps before)))) t ≡ true
    → spells (unit_ways (close_of part) part unit counts before) (unit_text counts unit ++ t) ≡ true
unit-spelled part unit true keeps before t h =
    word-spelled (unit ∷ []) (start part (behind_unit before)) t
    ∙ front-spelled part before keeps t h
unit-spelled part unit false keeps before t h = h

-- jiao and fen, after something that is written
small-spelled : (before : Before) (jiao fen : ℕ) (closes : Bool)
    → (is_written before || not (are_zero (small_places jiao fen))) ≡ true
    → spells (ways (start small (known before))) (small_text before jiao fen closes) ≡ true
small-spelled before jiao fen closes some =
    places-spelled small (small_places jiao fen) before true (closing jiao fen closes)
    (by before jiao fen closes some) where
      by : (before : Before) (jiao fen : ℕ) (closes : Bool)
          → (is_written before || not (are_zero (small_places jiao fen))) ≡ true
          → spells (close_of small (after_places before (small_places jiao fen))
          (are_zero (small_places jiao fen))) (closing jiao fen closes) ≡ true
      by Nothing zero zero closes some = cc
      by Gap zero zero closes some = refl
      by Filled zero zero closes some = refl
      by before (suc j) zero true some = refl
      by before (suc j) zero false some = refl
      by before jiao (suc f) closes some = refl

-- 元 and the text after it
yuan-spelled : (choices : Choices) (after : Before) (empty : Bool) (jiao fen : ℕ)
    → (let named = choices.no_yuan || are_zero (small_places jiao fen) in
    spells (close_of yuan after empty) (yuan_unit after named
    ++ small_text (after_yuan_unit choices.behind_yuan after named) jiao fen choices.behind_jiao)
    ≡ true)
yuan-spelled choices after empty jiao fen =
    by after choices.no_yuan (are_zero (small_places jiao fen)) refl where
      keeps : Bool
      keeps = choices.behind_yuan

      small_of : Before → List Capital
      small_of before = small_text before jiao fen choices.behind_jiao

      behind-yuan : (before : Before) (keeps : Bool) → is_written (behind keeps before) ≡ true
          → spells (ways (start small (behind_unit before)))
          (small_text (behind keeps before) jiao fen choices.behind_jiao) ≡ true
      behind-yuan before keeps w = front-spelled small before keeps
          (small_text (behind keeps before) jiao fen choices.behind_jiao)
          (small-spelled (behind keeps before) jiao fen choices.behind_jiao
          (ap (λ b. b || not (are_zero (small_places jiao fen))) w))

      written-gap : (keeps : Bool) → is_written (behind keeps Gap) ≡ true
      written-gap true = refl
      written-gap false = refl

      named-spelled : spells (close_of yuan Nothing empty) (Ling ∷ Yuan ∷ small_of (behind keeps Gap))
          ≡ true
      named-spelled = spells-first ((Some Ling ∷ Some Yuan ∷ [], start small either) ∷ [])
          (ways (start small (known Nothing))) (Ling ∷ Yuan ∷ small_of (behind keeps Gap))
          (word-spelled (Ling ∷ Yuan ∷ []) (start small either) (small_of (behind keeps Gap))
          ∙ behind-yuan Gap keeps (written-gap keeps))

      by : (after : Before) (no_yuan none : Bool) → are_zero (small_places jiao fen) ≡ none
          → spells (close_of yuan after empty) (yuan_unit after (no_yuan || none)
          ++ small_text (after_yuan_unit keeps after (no_yuan || none)) jiao fen choices.behind_jiao)
          ≡ true
      by Nothing true none e = named-spelled
      by Nothing false true e = named-spelled
      by Nothing false false e =
          spells-more ((Some Ling ∷ Some Yuan ∷ [], start small either) ∷ [])
          (ways (start small (known Nothing))) (small_of Nothing)
          (small-spelled Nothing jiao fen choices.behind_jiao (ap not e))
      by Gap no_yuan none e = word-spelled (Yuan ∷ []) (start small either) (small_of (behind keeps Gap))
          ∙ behind-yuan Gap keeps (written-gap keeps)
      by Filled no_yuan none e = word-spelled (Yuan ∷ []) (start small (known Filled)) (small_of Filled)
          ∙ behind-yuan Filled true refl

-- the texts from the section of the yuan on
from-yuan : (choices : Choices) (before : Before) (p : Places)
    → spells (ways (start yuan (known before))) (from_yuan choices before p) ≡ true
from-yuan choices before p =
    places-spelled yuan (places_in p.yuan) before true _
    (yuan-spelled choices (after_section before p.yuan) (is_empty p.yuan) p.jiao p.fen)

section-spelled : (part : Part) (before : Before) (s : Section) (unit rest : List Capital)
    → units_of part ≡ units_in (places_in s)
    → spells (close_of part (after_section before s) (is_empty s)) (unit ++ rest) ≡ true
    → spells (ways (start part (known before))) ((section_text before s ++ unit) ++ rest) ≡ true
section-spelled part before s unit rest four h =
    ap (λ units. spells (place_ways (close_of part) part units before true)
    ((section_text before s ++ unit) ++ rest)) four
    ∙ ap (spells (place_ways (close_of part) part (units_in (places_in s)) before true))
    (append_assoc (section_text before s) unit rest)
    ∙ places-spelled part (places_in s) before true (unit ++ rest) h

from-wan : (choices : Choices) (before : Before) (p : Places)
    → spells (ways (start wan (known before))) (from_wan choices before p) ≡ true
from-wan choices before p =
    let counts = not (is_empty p.wan) in
    let after = after_section before p.wan in
    let below = after_unit counts choices.behind_wan after in
    section-spelled wan before p.wan (unit_text counts Wan) (from_yuan choices below p) refl
    (unit-spelled yuan Wan counts choices.behind_wan after (from_yuan choices below p)
    (from-yuan choices below p))

from-yi : (choices : Choices) (before : Before) (p : Places)
    → spells (ways (start yi (known before))) (from_yi choices before p) ≡ true
from-yi choices before p =
    let after = after_section before p.yi in
    let counts = is_written after in
    let below = after_unit counts choices.behind_yi after in
    section-spelled yi before p.yi (unit_text counts Yi) (from_wan choices below p) refl
    (unit-spelled wan Yi counts choices.behind_yi after (from_wan choices below p)
    (from-wan choices below p))

from-top : (choices : Choices) (p : Places)
    → spells (ways (start wan_yi (known Nothing))) (from_top choices p) ≡ true
from-top choices p =
    let counts = not (is_empty p.wan_yi) in
    let after = after_section Nothing p.wan_yi in
    let below = after_unit counts choices.behind_wan_yi after in
    section-spelled wan_yi Nothing p.wan_yi (unit_text counts Wan) (from_yi choices below p) refl
    (unit-spelled yi Wan counts choices.behind_wan_yi after (from_yi choices below p)
    (from-yi choices below p))

pub form-read : (choices : Choices) (p : Places) → accepts Beginning (amount_form choices p) ≡ true
form-read choices p = reads-ways Beginning (amount_form choices p) ∙ by choices.currency where
  top : Point
  top = start wan_yi (known Nothing)

  currency : List Way
  currency = (Some Ren ∷ Some Min ∷ Some Bi ∷ [], top) ∷ []

  by : (b : Bool) → spells (currency ++ ways top)
      ((if b then Ren ∷ Min ∷ Bi ∷ [] else []) ++ from_top choices p) ≡ true
  by true = spells-first currency (ways top) (Ren ∷ Min ∷ Bi ∷ from_top choices p)
      (word-spelled (Ren ∷ Min ∷ Bi ∷ []) top (from_top choices p) ∙ from-top choices p)
  by false = spells-more currency (ways top) (from_top choices p) (from-top choices p)
