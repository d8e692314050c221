-- What can still be written at each point of a form; and that reading a form character by character
-- is a walk over these points.
use Rattle.std.proofs.Common.{◌≡◌, ℕ, Bool, true, false, not, ◌&&◌, ◌||◌, ◌==◌, ◌⊎◌, inl, inr, List, [], ◌∷◌, ◌++◌, map, get_or, Option, Some, None, refl, sym, ap, ap₂, ◌∙◌, arith}
use Rattle.std.proofs.lemmas.Bool.Decides.{nat_tests}
use Rattle.cn_core.proofs.Fronts.{and-left, and-right}
use Rattle.std.specs.List.{flat_map}
use Rattle.std.proofs.lemmas.Grind.{flat_map-append}
use Rattle.cn_amount.specs.declared.before.Before.{Before}
use Rattle.cn_amount.specs.declared.before.Before.TheVariants.{Nothing, Gap, Filled}
use Rattle.cn_amount.specs.declared.capital.Capital.{Capital}
use Rattle.cn_amount.specs.declared.capital.Capital.TheVariants.{Ling, Digit, Shi, Bai, Qian, Wan, Yi, Yuan, Jiao, Fen, Zheng, Ren, Min, Bi, Fu, Open, Shu, Close}
use Rattle.cn_amount.specs.Form.{is_written, after_digit}

-- the parts of a form: four sections, and the jiao with the fen
pub data Part : Type 0 where
  wan_yi yi wan yuan small : Part

-- what is before a place: it is known, or a 0 at the place of the unit before it may count
pub data Front : Type 0 where
  known : Before → Front
  either : Front

-- the units of the places that are still to come, what is before them, and whether each digit of
-- this part is 0 so far
pub record Point : Type 0 where
  pub part : Part
  pub units : List (List Capital)
  pub front : Front
  pub empty : Bool

-- the capitals that come next, in which `None` is any digit from 1 to 9, and the point after them
abbrev pub Way : Type 0
Way = List (Option Capital) × Point

abbrev pub at : Part → List (List Capital) → Before → Bool → Point
at part units before empty =
    record { part = part; units = units; front = known before; empty = empty }

abbrev pub units_of : Part → List (List Capital)
units_of small = (Jiao ∷ []) ∷ (Fen ∷ []) ∷ []
units_of part = (Qian ∷ []) ∷ (Bai ∷ []) ∷ (Shi ∷ []) ∷ [] ∷ []

-- the point at the start of a part
abbrev pub start : Part → Front → Point
start part front = record { part = part; units = units_of part; front = front; empty = true }

abbrev pub behind_unit : Before → Front
behind_unit Gap = either
behind_unit before = known before

abbrev pub finish : Point
finish = at small [] Filled false

-- a digit from 1 to 9 at the next place
abbrev pub digit_way : Part → List Capital → List (List Capital) → Before → Way
digit_way part unit units Gap =
    (Some Ling ∷ None ∷ map Some unit, at part units Filled false)
digit_way part unit units before = (None ∷ map Some unit, at part units Filled false)

-- the ways from a place on, given those that come after the part
abbrev pub place_ways : (Before → Bool → List Way) → Part → List (List Capital) → Before → Bool
    → List Way
place_ways close part [] before empty = close before empty
place_ways close part (unit ∷ units) before empty =
    digit_way part unit units before
    ∷ place_ways close part units (after_digit before 0) empty

-- the same if 零 may be before the place
abbrev pub front_ways : (Before → Bool → List Way) → Part → List (List Capital) → Front → Bool
    → List Way
front_ways close part units (known before) empty = place_ways close part units before empty
front_ways close part [] either empty = close Filled empty ++ close Gap empty
front_ways close part (unit ∷ units) either empty =
    digit_way part unit units Filled ∷ digit_way part unit units Gap
    ∷ place_ways close part units Gap empty

-- the ways after a section: its unit, if it counts something
abbrev pub unit_ways : (Before → Bool → List Way) → Part → Capital → Bool → Before → List Way
unit_ways close part unit true before = (Some unit ∷ [], start part (behind_unit before)) ∷ []
unit_ways close part unit false before = place_ways close part (units_of part) before true

abbrev pub close_small : Before → Bool → List Way
close_small Nothing empty = []
close_small Gap true = (Some Zheng ∷ [], finish) ∷ []
close_small Gap false = ([], finish) ∷ (Some Zheng ∷ [], finish) ∷ []
close_small Filled empty = ([], finish) ∷ []

abbrev pub close_yuan : Before → Bool → List Way
close_yuan Nothing empty = (Some Ling ∷ Some Yuan ∷ [], start small either)
    ∷ place_ways close_small small (units_of small) Nothing true
close_yuan before empty = (Some Yuan ∷ [], start small (behind_unit before)) ∷ []

abbrev pub close_wan : Before → Bool → List Way
close_wan before empty = unit_ways close_yuan yuan Wan (not empty) before

abbrev pub close_yi : Before → Bool → List Way
close_yi before empty = unit_ways close_wan wan Yi (is_written before) before

abbrev pub close_wan_yi : Before → Bool → List Way
close_wan_yi before empty = unit_ways close_yi yi Wan (not empty) before

abbrev pub close_of : Part → Before → Bool → List Way
close_of wan_yi before empty = close_wan_yi before empty
close_of yi before empty = close_yi before empty
close_of wan before empty = close_wan before empty
close_of yuan before empty = close_yuan before empty
close_of small before empty = close_small before empty

abbrev pub ways : Point → List Way
ways p = front_ways (close_of p.part) p.part p.units p.front p.empty

-- the ways after capitals that are still to come
abbrev pub opened : Way → List Way
opened ([], p) = ways p
opened (c ∷ cs, p) = (c ∷ cs, p) ∷ []

-- a capital and its digit
abbrev code : Capital → ℕ × ℕ
code Ling = (0, 0)
code (Digit value) = (1, value)
code Shi = (2, 0)
code Bai = (3, 0)
code Qian = (4, 0)
code Wan = (5, 0)
code Yi = (6, 0)
code Yuan = (7, 0)
code Jiao = (8, 0)
code Fen = (9, 0)
code Zheng = (10, 0)
code Ren = (11, 0)
code Min = (12, 0)
code Bi = (13, 0)
code Fu = (14, 0)
code Open = (15, 0)
code Shu = (16, 0)
code Close = (17, 0)

abbrev pub fits : Option Capital → Capital → Bool
fits None (Digit value) = true
fits None x = false
fits (Some c) x = (code c).0 == (code x).0 && (code c).1 == (code x).1

-- the ways that continue with a capital
abbrev pub with_capital : Capital → Way → List Way
with_capital x ([], p) = []
with_capital x (c ∷ cs, p) = elim (fits c x) [ true ↦ opened (cs, p) | false ↦ [] ]

abbrev pub is_ended : Way → Bool
is_ended ([], p) = true
is_ended (c ∷ cs, p) = false

abbrev pub ended : List Way → Bool
ended [] = false
ended (way ∷ more) = is_ended way || ended more

-- the text is written along one of these ways
abbrev pub spells : List Way → List Capital → Bool
spells more [] = ended more
spells more (x ∷ t) = spells (flat_map (with_capital x) more) t

-- the text is written along one of two lists of ways
pub spells-append : (one two : List Way) (t : List Capital)
    → spells (one ++ two) t ≡ (spells one t || spells two t)
spells-append one two [] = ended-append one two where
  ended-append : (one two : List Way) → ended (one ++ two) ≡ (ended one || ended two)
  ended-append [] two = refl
  ended-append (way ∷ one) two = by (is_ended way) (ended-append one two) where
    by : (b : Bool) → ended (one ++ two) ≡ (ended one || ended two)
        → (b || ended (one ++ two)) ≡ ((b || ended one) || ended two)
    by true ih = refl
    by false ih = ih
spells-append one two (x ∷ t) =
    ap (λ more. spells more t) (flat_map-append (with_capital x) one two)
    ∙ spells-append (flat_map (with_capital x) one) (flat_map (with_capital x) two) t

or-left : (a b : Bool) → a ≡ true → (a || b) ≡ true
or-left true b h = refl
or-left false b h = cc

or-right : (a b : Bool) → b ≡ true → (a || b) ≡ true
or-right true b h = refl
or-right false b h = h

or-cases : (a b : Bool) → (a || b) ≡ true → (a ≡ true) ⊎ (b ≡ true)
or-cases true b h = inl refl
or-cases false b h = inr h

pub spells-first : (one two : List Way) (t : List Capital) → spells one t ≡ true
    → spells (one ++ two) t ≡ true
spells-first one two t h = spells-append one two t ∙ or-left (spells one t) (spells two t) h

pub spells-more : (one two : List Way) (t : List Capital) → spells two t ≡ true
    → spells (one ++ two) t ≡ true
spells-more one two t h = spells-append one two t ∙ or-right (spells one t) (spells two t) h

pub spells-cases : (one two : List Way) (t : List Capital) → spells (one ++ two) t ≡ true
    → (spells one t ≡ true) ⊎ (spells two t ≡ true)
spells-cases one two t h =
    or-cases (spells one t) (spells two t) (sym (spells-append one two t) ∙ h)

pub none-spelled : (t : List Capital) → spells [] t ≡ false
none-spelled [] = refl
none-spelled (x ∷ t) = none-spelled t

-- a capital fits itself and no other
pub fits-self : (c : Capital) → fits (Some c) c ≡ true
fits-self (Digit value) = grind (arith, nat_tests)
fits-self c = refl

abbrev coded : ℕ × ℕ → Capital
coded place = get_or (Ling ∷ Digit place.1 ∷ Shi ∷ Bai ∷ Qian ∷ Wan ∷ Yi ∷ Yuan ∷ Jiao ∷ Fen
    ∷ Zheng ∷ Ren ∷ Min ∷ Bi ∷ Fu ∷ Open ∷ Shu ∷ Close ∷ []) place.0 Ling

coded-code : (c : Capital) → coded (code c) ≡ c
coded-code Ling = refl
coded-code c = refl

pub fits-is : (c x : Capital) → fits (Some c) x ≡ true → x ≡ c
fits-is c x h =
    let one : (code c).0 ≡ (code x).0 = grind (
      arith,
      nat_tests,
      and-left ((code c).0 == (code x).0) ((code c).1 == (code x).1) h,
    ) in
    let two : (code c).1 ≡ (code x).1 = grind (
      arith,
      nat_tests,
      and-right ((code c).0 == (code x).0) ((code c).1 == (code x).1) h,
    ) in
    sym (coded-code x) ∙ ap₂ (λ (a b : ℕ). coded (a, b)) (sym one) (sym two) ∙ coded-code c
