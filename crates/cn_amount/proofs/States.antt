-- What each state of the reader stands for: the ways that are still open.
use Rattle.std.proofs.Common.{◌≡◌, ℕ, zero, suc, ◌&&◌, nat_lt, Bool, true, false, List, [], ◌∷◌, ◌++◌, map, Option, Some, None, refl, sym, ap, ◌∙◌}
use Rattle.std.specs.List.{flat_map, list_all}
use Rattle.cn_amount.specs.declared.before.Before.{Before}
use Rattle.cn_amount.specs.declared.before.Before.TheVariants.{Nothing, Gap, Filled}
use Rattle.cn_amount.specs.declared.capital.Capital.{Capital}
use Rattle.cn_amount.specs.declared.capital.Capital.TheVariants.{Ling, Digit, Shi, Bai, Qian, Wan, Yuan, Jiao, Fen, Zheng, Ren, Min, Bi, Fu, Open, Shu, Close}
use Rattle.cn_amount.specs.declared.state.Place.{Place}
use Rattle.cn_amount.specs.declared.state.Place.TheVariants.{Ones, Tens, Hundreds, Thousands}
use Rattle.cn_amount.specs.declared.state.Stage.{Stage}
use Rattle.cn_amount.specs.declared.state.Stage.TheVariants.{Top, BelowWan, BelowYi, BelowYiGap, OnlyWan, Last}
use Rattle.cn_amount.specs.declared.state.State.{State}
use Rattle.cn_amount.specs.declared.state.State.TheVariants.{Beginning, AfterRen, AfterMin, AfterCurrency, NoYuan, FirstDigit, AfterFirstWan, AfterYi, AfterLastWan, AfterLing, DigitAt, DigitBelow, AfterUnit, AfterYuan, AfterYuanLing, SmallDigit, JiaoDigit, AfterJiao, FenDigit, Complete}
use Rattle.cn_amount.specs.Working.Steps.{step, is_end, accepts}
use Rattle.cn_amount.proofs.Points.{Part, wan_yi, yi, wan, yuan, small, Front, known, either, Point, Way, at, start, finish, opened, with_capital, ended, spells, none-spelled}

-- the sections that it can be
abbrev parts_of : Stage → List Part
parts_of Top = wan_yi ∷ yi ∷ wan ∷ yuan ∷ []
parts_of BelowWan = yi ∷ yuan ∷ []
parts_of BelowYi = wan ∷ yuan ∷ []
parts_of BelowYiGap = wan ∷ yuan ∷ []
parts_of OnlyWan = wan ∷ []
parts_of Last = yuan ∷ []

-- the units from a place on
abbrev units_from : Place → List (List Capital)
units_from Thousands = (Qian ∷ []) ∷ (Bai ∷ []) ∷ (Shi ∷ []) ∷ [] ∷ []
units_from Hundreds = (Bai ∷ []) ∷ (Shi ∷ []) ∷ [] ∷ []
units_from Tens = (Shi ∷ []) ∷ [] ∷ []
units_from Ones = [] ∷ []

-- a digit at one of these places, and what is before it
abbrev digits : List (Option Capital) → Part → List (List Capital) → List Way
digits front part [] = []
digits front part (unit ∷ units) =
    (front ++ map Some unit, at part units Filled false) ∷ digits front part units

abbrev digit_at : Part → List (List Capital) → List Way
digit_at part [] = []
digit_at part (unit ∷ units) = (map Some unit, at part units Filled false) ∷ []

-- after 亿 and 零, although the digit at its place is not 0, the next digit is one of 万's section
-- but not its 仟, or one of the last section
abbrev places_of : Stage → Place → Part → List (List Capital)
places_of BelowYiGap Thousands wan = units_from Hundreds
places_of stage place part = units_from place

abbrev any_digit : Stage → Place → List (Option Capital) → List Way
any_digit stage place front =
    flat_map (λ part. digits front part (places_of stage place part)) (parts_of stage)

abbrev after_digit_units : Place → List (List Capital)
after_digit_units Thousands = units_from Hundreds
after_digit_units Hundreds = units_from Tens
after_digit_units Tens = units_from Ones
after_digit_units Ones = []

abbrev before_of : Place → Before
before_of Ones = Gap
before_of place = Filled

abbrev front_of : Bool → Front
front_of true = either
front_of false = known Filled

abbrev small_units : Bool → List (List Capital)
small_units true = (Jiao ∷ []) ∷ (Fen ∷ []) ∷ []
small_units false = (Fen ∷ []) ∷ []

abbrev beginning : Point
beginning = start wan_yi (known Nothing)

abbrev stands : State → List Way
stands Beginning = (Some Ren ∷ Some Min ∷ Some Bi ∷ [], beginning) ∷ ([], beginning) ∷ []
stands AfterRen = (Some Min ∷ Some Bi ∷ [], beginning) ∷ []
stands AfterMin = (Some Bi ∷ [], beginning) ∷ []
stands AfterCurrency = ([], beginning) ∷ []
stands NoYuan = (Some Yuan ∷ [], start small either) ∷ []
stands FirstDigit = any_digit Top Thousands [] ++ digits [] small (small_units true)
stands (AfterFirstWan is_round) =
    ([], start yi (front_of is_round)) ∷ ([], start yuan (front_of is_round)) ∷ []
stands (AfterYi is_round) = ([], start wan (front_of is_round)) ∷ []
stands (AfterLastWan is_round) = ([], start yuan (front_of is_round)) ∷ []
stands (AfterLing stage place) = any_digit stage place (None ∷ [])
stands (DigitAt stage place) =
    flat_map (λ part. digit_at part (units_from place)) (parts_of stage)
stands (DigitBelow stage place) = any_digit stage place []
stands (AfterUnit stage place) =
    map (λ part. ([], at part (after_digit_units place) (before_of place) false)) (parts_of stage)
stands (AfterYuan is_round) = ([], start small (front_of is_round)) ∷ []
stands (AfterYuanLing is_round) = digits (None ∷ []) small (small_units is_round)
stands (SmallDigit is_round) = digits [] small (small_units is_round)
stands JiaoDigit = digit_at small (small_units true)
stands AfterJiao = ([], at small ((Fen ∷ []) ∷ []) Filled false) ∷ []
stands FenDigit = digit_at small (small_units false)
stands Complete = ([], finish) ∷ []

-- all ways that are open at a state
abbrev pub open_at : Option State → List Way
open_at None = []
open_at (Some state) = flat_map opened (stands state)

-- a capital that an amount can have: a digit is one from 1 to 9
abbrev pub is_proper : Capital → Bool
is_proper (Digit value) = nat_lt 0 value && nat_lt value 10
is_proper Fu = false
is_proper Open = false
is_proper Shu = false
is_proper Close = false
is_proper capital = true

-- texts that complete one, found by trying them
abbrev tries : List Capital
tries = Zheng ∷ Yuan ∷ Wan ∷ Fen ∷ Shi ∷ Bai ∷ Qian ∷ Jiao ∷ Ling ∷ Digit 1 ∷ Min ∷ Bi ∷ []

abbrev first_of_them : (State → List Capital) → State → List Capital → List Capital
first_of_them completed state [] = []
first_of_them completed state (x ∷ more) = elim (step state x) [
  | None ↦ first_of_them completed state more
  | Some next ↦ x ∷ completed next
]

abbrev completion_within : ℕ → State → List Capital
completion_within zero state = []
completion_within (suc n) state = elim (is_end state) [
  | true ↦ []
  | false ↦ first_of_them (completion_within n) state tries
]

abbrev pub completion : State → List Capital
completion state = completion_within 6 state

-- a state is right: it ends where forms do, continues with each capital as they do, and can be
-- completed
abbrev Right : State → Type 0
Right state =
    (ended (open_at (Some state)) ≡ is_end state)
    × (accepts state (completion state) ≡ true)
    × (list_all is_proper (completion state) ≡ true)
    × ((x : Capital) → flat_map (with_capital x) (open_at (Some state)) ≡ open_at (step state x))

data Shape : Type 0 where
  ling unit_behind digit_here digit_below : Shape

abbrev shaped : Shape → Stage → Place → State
shaped ling stage place = AfterLing stage place
shaped unit_behind stage place = AfterUnit stage place
shaped digit_here stage place = DigitAt stage place
shaped digit_below stage place = DigitBelow stage place

places-right : (shape : Shape) (stage : Stage) (place : Place) → Right (shaped shape stage place)
places-right = elim [
  | ling ↦ elim [
    | Top ↦ elim [
      | Ones ↦ (refl, refl, refl, elim [ Ling ↦ refl | _ ↦ refl ])
      | _ ↦ (refl, refl, refl, elim [ Ling ↦ refl | _ ↦ refl ])
    ]
    | _ ↦ elim [
      | Ones ↦ (refl, refl, refl, elim [ Ling ↦ refl | _ ↦ refl ])
      | _ ↦ (refl, refl, refl, elim [ Ling ↦ refl | _ ↦ refl ])
    ]
  ]
  | _ ↦ elim [
    | Top ↦ elim [
      | Ones ↦ (refl, refl, refl, elim [ Ling ↦ refl | _ ↦ refl ])
      | _ ↦ (refl, refl, refl, elim [ Ling ↦ refl | _ ↦ refl ])
    ]
    | _ ↦ elim [
      | Ones ↦ (refl, refl, refl, elim [ Ling ↦ refl | _ ↦ refl ])
      | _ ↦ (refl, refl, refl, elim [ Ling ↦ refl | _ ↦ refl ])
    ]
  ]
]

right : (state : State) → Right state
right Beginning = (refl, refl, refl, elim [ Ling ↦ refl | _ ↦ refl ])
right (AfterLing stage place) = places-right ling stage place
right (AfterUnit stage place) = places-right unit_behind stage place
right (DigitAt stage place) = places-right digit_here stage place
right (DigitBelow stage place) = places-right digit_below stage place
right (AfterFirstWan true) = (refl, refl, refl, elim [ Ling ↦ refl | _ ↦ refl ])
right (AfterFirstWan false) = (refl, refl, refl, elim [ Ling ↦ refl | _ ↦ refl ])
right (AfterYi true) = (refl, refl, refl, elim [ Ling ↦ refl | _ ↦ refl ])
right (AfterYi false) = (refl, refl, refl, elim [ Ling ↦ refl | _ ↦ refl ])
right (AfterLastWan true) = (refl, refl, refl, elim [ Ling ↦ refl | _ ↦ refl ])
right (AfterLastWan false) = (refl, refl, refl, elim [ Ling ↦ refl | _ ↦ refl ])
right (AfterYuan true) = (refl, refl, refl, elim [ Ling ↦ refl | _ ↦ refl ])
right (AfterYuan false) = (refl, refl, refl, elim [ Ling ↦ refl | _ ↦ refl ])
right (AfterYuanLing true) = (refl, refl, refl, elim [ Ling ↦ refl | _ ↦ refl ])
right (AfterYuanLing false) = (refl, refl, refl, elim [ Ling ↦ refl | _ ↦ refl ])
right (SmallDigit true) = (refl, refl, refl, elim [ Ling ↦ refl | _ ↦ refl ])
right (SmallDigit false) = (refl, refl, refl, elim [ Ling ↦ refl | _ ↦ refl ])
right state = (refl, refl, refl, elim [ Ling ↦ refl | _ ↦ refl ])

pub completed : (state : State) → accepts state (completion state) ≡ true
completed state = (right state).1

pub completion-proper : (state : State) → list_all is_proper (completion state) ≡ true
completion-proper state = (right state).2

-- so a text that is read from a state on is written along one of the state's ways
pub reads-ways : (state : State) (t : List Capital)
    → accepts state t ≡ spells (open_at (Some state)) t
reads-ways state [] = sym (right state).0
reads-ways state (x ∷ t) =
    by (step state x) (λ next. reads-ways next t) ∙ sym (ap (λ more. spells more t) ((right state).3 x))
  where
    by : (o : Option State) → ((next : State) → accepts next t ≡ spells (open_at (Some next)) t)
        → elim o [ None ↦ false | Some next ↦ accepts next t ] ≡ spells (open_at o) t
    by None ih = sym (none-spelled t)
    by (Some next) ih = ih next
