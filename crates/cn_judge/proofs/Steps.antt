-- One step of the walk: the fault of a mark, given the state of the walk.
use Rattle.std.proofs.Common.{◌≡◌, ◌≢◌, ℕ, suc, ◌+◌, ◌*◌, ◌^◌, ◌<◌, Bool, true, false, not, ◌&&◌, ◌||◌, nat_le, nat_lt, ◌==◌, List, [], ◌∷◌, length, Option, Some, None, refl, sym, ap, ◌∙◌, arith, if◌then◌else◌}
use Rattle.std.proofs.lemmas.List.{length-map}
use Rattle.std.specs.Option.{option_map_or}
use Rattle.std.proofs.lemmas.Bool.Decides.{nat_tests}
use Rattle.cn_core.specs.declared.method.ChineseCountMethod.{ChineseCountMethod}
use Rattle.cn_core.specs.Mark.{Mark, digit, unit, other}
use Rattle.cn_core.specs.Numeral.{may_precede, each_may_precede, starts_with_greater, multiplies_upwards, counts_a_unit}
use Rattle.cn_core.specs.Place.{is_overflowing, some_unfit, some_overflowing}
use Rattle.cn_core.specs.Refusal.{incorrect_at, too_large}
use Rattle.cn_core.specs.Scale.{scale, scale_fits}
use Rattle.cn_core.specs.Value.{value, records_from}
use Rattle.cn_core.specs.Judging.{place_of}
use Rattle.cn_core.proofs.Fronts.{and-left, and-right, both}
use Rattle.cn_core.proofs.OpenUnits.{in_ranks, length-records}
use Rattle.cn_judge.specs.Private.Walk.{sum_of, opens_of, fault_of, faults, leading_rank, multiplies_by}
use Rattle.cn_judge.specs.Private.Stack.{StackEntry, closed_sum, still_open, top_of}
use Rattle.cn_judge.proofs.OpenSums.{group, take_while-group, closed-group, first_not_smaller-top, opens-records, ranks_of}
use Rattle.cn_judge.proofs.Faults.{faults_by, faults-at, is_early_at}

-- if the walk found no fault, the rules hold and nothing overflows
pub record IsSound (method : ChineseCountMethod) (marks : List Mark) : Type 0 where
  pub each : each_may_precede marks ≡ true
  pub fit : some_unfit method marks ≡ false
  pub small : some_overflowing method marks ≡ false

or-left : (a b : Bool) → (a || b) ≡ false → a ≡ false
or-left true b h = cc
or-left false b h = refl

pub or-right : (a b : Bool) → (a || b) ≡ false → b ≡ false
or-right true b h = cc
or-right false b h = h

pub sound-none : (method : ChineseCountMethod) (marks : List Mark) → faults method marks ≡ None
    → IsSound method marks
sound-none method marks h = by (each_may_precede marks) (some_unfit method marks
    || some_overflowing method marks) (is_early_at method marks (place_of marks)) refl refl
    (sym (faults-at method marks) ∙ h) where
      by : (e o early : Bool) → each_may_precede marks ≡ e
          → (some_unfit method marks || some_overflowing method marks) ≡ o
          → faults_by e o early (place_of marks) ≡ None → IsSound method marks
      by true false early p q h = record {
        each = p;
        fit = or-left _ _ q;
        small =
            or-right (some_unfit method marks) _ q;
      }
      by true true early p q h = cc
      by false o true p q h = cc
      by false o false p q h = cc

-- the rule on a unit directly before a unit
pub multiplies-leading : (u : ℕ) (marks : List Mark)
    → multiplies_upwards (unit u) marks ≡ multiplies_by u (leading_rank marks)
multiplies-leading u [] = refl
multiplies-leading u (digit n ∷ rest) = refl
multiplies-leading u (unit n ∷ rest) = refl
multiplies-leading u (other ∷ rest) = refl

-- closing the smaller units overflows exactly if the definition says so
upwards : (u v : ℕ) → (nat_lt u v || (u == 1 && v == 0)) ≡ true → nat_lt v u ≡ true
    → (u ≡ 1) × (v ≡ 0)
upwards u v h less = by (nat_lt u v) (u == 1) (v == 0) refl refl refl h where
  by : (a b c : Bool) → nat_lt u v ≡ a → (u == 1) ≡ b → (v == 0) ≡ c → (a || (b && c)) ≡ true
      → (u ≡ 1) × (v ≡ 0)
  by true b c p q r h = absurd (let x : u < v = grind (arith, nat_tests) in let y : v < u =
      grind (arith, nat_tests) in omega (arith, x, y))
  by false true true p q r h = (grind (arith, nat_tests), grind (arith, nat_tests))
  by false true false p q r h = cc
  by false false c p q r h = cc

counted : (marks : List Mark) → starts_with_greater 0 marks ≡ true → group 1 marks ≡ []
counted [] h = cc
counted (digit n ∷ rest) h = cc
counted (other ∷ rest) h = cc
counted (unit n ∷ rest) h = let t : nat_lt n 1 ≡ false = grind (arith, nat_tests) in rw t

group_of_units : (method : ChineseCountMethod) (u v : ℕ) (rest : List Mark)
    → each_may_precede (unit v ∷ rest) ≡ true → (nat_lt u v || (u == 1 && v == 0)) ≡ true
    → value method (group u (unit v ∷ rest)) ≡ 0
group_of_units method u v rest e h = by (nat_lt v u) refl where
  by : (b : Bool) → nat_lt v u ≡ b → value method (if b then unit v ∷ group u rest else []) ≡ 0
  by false p = refl
  by true p =
      let both = upwards u v h p in
      let rules = and-left (may_precede (unit v) rest) _ e in
      let zero_rules = rw (both.1) at rules in
      let counts : starts_with_greater 0 rest ≡ true =
      and-right (multiplies_upwards (unit 0) rest) _
      (and-left (multiplies_upwards (unit 0) rest && starts_with_greater 0 rest) _
      zero_rules) in
      rw (both.0, counted rest counts)

pub overflowing-closed : (method : ChineseCountMethod) (u : ℕ) (marks : List Mark)
    → each_may_precede marks ≡ true → multiplies_by u (leading_rank marks) ≡ true
    → is_overflowing method (unit u) marks
    ≡ nat_le (2 ^ 128) (closed_sum u (sum_of marks) (opens_of method marks))
overflowing-closed method u [] e h = refl
overflowing-closed method u (other ∷ rest) e h = cc
overflowing-closed method u (digit n ∷ rest) e h =
    ap (λ l. nat_le (2 ^ 128) (value method l)) (take_while-group u (digit n ∷ rest))
    ∙ ap (nat_le (2 ^ 128)) (sym (closed-group method u (digit n ∷ rest)))
overflowing-closed method u (unit v ∷ rest) e h =
    sym (ap (nat_le (2 ^ 128)) (closed-group method u (unit v ∷ rest)
    ∙ group_of_units method u v rest e h))

-- 個 is directly before a greater unit
counts-leading : (u : ℕ) (marks : List Mark) → multiplies_by u (leading_rank marks) ≡ true
    → leading_rank marks ≢ None → counts_a_unit (unit u) marks ≡ true
counts-leading u [] h some = absurd (some refl)
counts-leading u (digit n ∷ rest) h some = absurd (some refl)
counts-leading u (other ∷ rest) h some = absurd (some refl)
counts-leading u (unit n ∷ rest) h some = by (u == 0) refl where
  by : (b : Bool) → (u == 0) ≡ b → (if b then nat_lt u n else true) ≡ true
  by false e = refl
  by true e = let z : u ≡ 0 = grind (arith, nat_tests) in by_zero u n z h where
    by_zero : (u n : ℕ) → u ≡ 0 → (nat_lt u n || (u == 1 && n == 0)) ≡ true → nat_lt u n ≡ true
    by_zero u n z h = grind (arith, nat_tests)

counts-none : (u : ℕ) (marks : List Mark) → u ≡ 0 → leading_rank marks ≡ None
    → counts_a_unit (unit u) marks ≡ false
counts-none u [] z none = rw z
counts-none u (digit n ∷ rest) z none = rw z
counts-none u (other ∷ rest) z none = rw z
counts-none u (unit n ∷ rest) z none = cc

counts-some : (u : ℕ) (marks : List Mark) → u ≢ 0 → counts_a_unit (unit u) marks ≡ true
counts-some u marks some = let t : (u == 0) ≡ false = grind (arith, nat_tests) in rw t

pub counts-either : (u : ℕ) (marks : List Mark) → multiplies_by u (leading_rank marks) ≡ true
    → (u ≡ 0 → leading_rank marks ≢ None) → counts_a_unit (unit u) marks ≡ true
counts-either u marks h some = by (u == 0) refl where
  by : (b : Bool) → (u == 0) ≡ b → counts_a_unit (unit u) marks ≡ true
  by true e = counts-leading u marks h (some (grind (arith, nat_tests)))
  by false e = counts-some u marks (grind (arith, nat_tests))

-- the rules on a unit, given the unit that is on top after the smaller ones are closed
abbrev pub above : ℕ → Option ℕ → Bool
above rank top = option_map_or (λ next. nat_lt rank next) top true

precedes-unit : (method : ChineseCountMethod) (u : ℕ) (marks : List Mark)
    → may_precede (unit u) marks ≡ (multiplies_upwards (unit u) marks
    && counts_a_unit (unit u) marks && above u (top_of (still_open u (opens_of method marks))))
precedes-unit method u marks = ap (λ o. multiplies_upwards (unit u) marks
    && counts_a_unit (unit u) marks
    && option_map_or (λ next. nat_lt u next) o true) (first_not_smaller-top method u marks)

pub top-above : (u : ℕ) (opens : List StackEntry) → top_of (still_open u opens) ≢ Some u
    → above u (top_of (still_open u opens)) ≡ true
top-above u [] h = refl
top-above u (top ∷ opens) h = by (nat_lt top.0 u) refl h (top-above u opens) where
  by : (b : Bool) → nat_lt top.0 u ≡ b
      → top_of (if b then still_open u opens else top ∷ opens) ≢ Some u
      → (top_of (still_open u opens) ≢ Some u → above u (top_of (still_open u opens)) ≡ true)
      → above u (top_of (if b then still_open u opens else top ∷ opens)) ≡ true
  by true e h ih = ih h
  by false e h ih = let other : top.0 ≢ u = λ same. h (ap Some same) in grind (arith, nat_tests)

pub closed-next : (u : ℕ) (opens : List StackEntry) (sum : ℕ) → top_of (still_open u opens) ≢ Some u
    → (closed_sum (u + 1) sum opens ≡ closed_sum u sum opens)
    × (still_open (u + 1) opens ≡ still_open u opens)
closed-next u [] sum h = (refl, refl)
closed-next u (top ∷ opens) sum h = by (nat_lt top.0 u) refl h
    (closed-next u opens (sum * top.1 + top.2)) where
      by : (b : Bool) → nat_lt top.0 u ≡ b
          → top_of (if b then still_open u opens else top ∷ opens) ≢ Some u
          → (top_of (still_open u opens) ≢ Some u
          → (closed_sum (u + 1) (sum * top.1 + top.2) opens
          ≡ closed_sum u (sum * top.1 + top.2) opens)
          × (still_open (u + 1) opens ≡ still_open u opens))
          → ((if nat_lt top.0 (u + 1) then closed_sum (u + 1) (sum * top.1 + top.2) opens else sum)
          ≡ (if b then closed_sum u (sum * top.1 + top.2) opens else sum))
          × ((if nat_lt top.0 (u + 1) then still_open (u + 1) opens else top ∷ opens)
          ≡ (if b then still_open u opens else top ∷ opens))
      by true e h ih = let t : nat_lt top.0 (u + 1) ≡ true = grind (arith, nat_tests) in rw t (ih h)
      by false e h ih =
          let other : top.0 ≢ u = λ same. h (ap Some same) in
          let t : nat_lt top.0 (u + 1) ≡ false = grind (arith, nat_tests) in rw t (refl, refl)

-- the open units after a unit is opened
pub opens-next : (method : ChineseCountMethod) (u : ℕ) (marks : List Mark)
    → top_of (still_open u (opens_of method marks)) ≢ Some u
    → opens_of method (unit u ∷ marks) ≡ (
      u,
      scale method u,
      closed_sum u (sum_of marks) (opens_of method marks),
    ) ∷ still_open u (opens_of method marks)
opens-next method u marks h = let n =
    closed-next u (opens_of method marks) (sum_of marks) h in rw (n.0, n.1)

-- the array has space for one more unit
pub opens-room : (method : ChineseCountMethod) (u : ℕ) (marks : List Mark) → in_ranks marks ≡ true
    → u < 16 → top_of (still_open u (opens_of method marks)) ≢ Some u
    → length (still_open u (opens_of method marks)) < 16
opens-room method u marks low small h =
    let test : nat_lt u 16 ≡ true = grind (arith, nat_tests) in
    let ranks : in_ranks (unit u ∷ marks) ≡ true = rw test low in
    let all = length-records 0 (unit u ∷ marks) (omega arith) ranks in
    let same : length (ranks_of (opens_of method (unit u ∷ marks)))
    ≡ length (records_from 0 (unit u ∷ marks)) =
    ap length (opens-records method (unit u ∷ marks)) in
    let mapped : length (ranks_of (opens_of method (unit u ∷ marks)))
    ≡ length (opens_of method (unit u ∷ marks)) =
    length-map (opens_of method (unit u ∷ marks)) (λ (top : StackEntry). top.0) in
    let next : length (opens_of method (unit u ∷ marks))
    ≡ suc (length (still_open u (opens_of method marks))) =
    ap length (opens-next method u marks h) in
    omega (arith, all, same, mapped, next)

-- the cases of a step at a unit
pub unit-past : (method : ChineseCountMethod) (u : ℕ) (marks : List Mark) → IsSound method marks
    → multiplies_by u (leading_rank marks) ≡ true
    → ¬ (closed_sum u (sum_of marks) (opens_of method marks) < 2 ^ 128)
    → fault_of method (unit u) marks ≡ Some too_large
unit-past method u marks sound h past =
    let over : is_overflowing method (unit u) marks ≡ true =
    overflowing-closed method u marks sound.each h ∙ great _ past in rw over where
      great : (a : ℕ) → ¬ (a < 2 ^ 128) → nat_le (2 ^ 128) a ≡ true
      great a h = grind (arith, nat_tests)

fault_by : (method : ChineseCountMethod) (u : ℕ) (marks : List Mark) (b : Bool)
    → IsSound method marks → multiplies_by u (leading_rank marks) ≡ true
    → closed_sum u (sum_of marks) (opens_of method marks) < 2 ^ 128 → may_precede (unit u) marks ≡ b
    → fault_of method (unit u) marks ≡ (if b
    then (if not (scale_fits method u) then Some too_large else None) else Some (incorrect_at 0))
fault_by method u marks b sound h fits rules =
    let under : is_overflowing method (unit u) marks ≡ false =
    overflowing-closed method u marks sound.each h ∙ small _ fits in rw (under, rules) where
      small : (a : ℕ) → a < 2 ^ 128 → nat_le (2 ^ 128) a ≡ false
      small a h = grind (arith, nat_tests)

pub unit-alone : (method : ChineseCountMethod) (u : ℕ) (marks : List Mark) → IsSound method marks
    → multiplies_by u (leading_rank marks) ≡ true
    → closed_sum u (sum_of marks) (opens_of method marks) < 2 ^ 128 → u ≡ 0
    → leading_rank marks ≡ None → fault_of method (unit u) marks ≡ Some (incorrect_at 0)
unit-alone method u marks sound h fits z none =
    fault_by method u marks false sound h fits
    (precedes-unit method u marks ∙ ap (λ b. multiplies_upwards (unit u) marks && b
    && above u (top_of (still_open u (opens_of method marks)))) (counts-none u marks z
    none) ∙ off (multiplies_upwards (unit u) marks) _) where
      off : (a b : Bool) → (a && false && b) ≡ false
      off true b = refl
      off false b = refl

pub unit-same : (method : ChineseCountMethod) (u : ℕ) (marks : List Mark) → IsSound method marks
    → multiplies_by u (leading_rank marks) ≡ true
    → closed_sum u (sum_of marks) (opens_of method marks) < 2 ^ 128
    → top_of (still_open u (opens_of method marks)) ≡ Some u
    → fault_of method (unit u) marks ≡ Some (incorrect_at 0)
unit-same method u marks sound h fits top =
    fault_by method u marks false sound h fits
    (precedes-unit method u marks ∙ ap (λ o. multiplies_upwards (unit u) marks
    && counts_a_unit (unit u) marks && above u o) top
    ∙ last (multiplies_upwards (unit u) marks) _ _ (self u)) where
      self : (u : ℕ) → nat_lt u u ≡ false
      self u = grind (arith, nat_tests)

      last : (a b c : Bool) → c ≡ false → (a && b && c) ≡ false
      last true true c h = h
      last true false c h = refl
      last false b c h = refl

unit-keeps : (method : ChineseCountMethod) (u : ℕ) (marks : List Mark)
    → multiplies_by u (leading_rank marks) ≡ true → (u ≡ 0 → leading_rank marks ≢ None)
    → top_of (still_open u (opens_of method marks)) ≢ Some u → may_precede (unit u) marks ≡ true
unit-keeps method u marks h some top =
    precedes-unit method u marks ∙ both _ _
    (both _ _ (multiplies-leading u marks ∙ h) (counts-either u marks h some))
    (top-above u (opens_of method marks) top)

pub unit-step : (method : ChineseCountMethod) (u : ℕ) (marks : List Mark) (b : Bool)
    → IsSound method marks → multiplies_by u (leading_rank marks) ≡ true
    → closed_sum u (sum_of marks) (opens_of method marks) < 2 ^ 128
    → (u ≡ 0 → leading_rank marks ≢ None) → top_of (still_open u (opens_of method marks)) ≢ Some u
    → scale_fits method u ≡ b → fault_of method (unit u) marks
    ≡ (if b then None else Some too_large)
unit-step method u marks true sound h fits some top fit =
    fault_by method u marks true sound h fits (unit-keeps method u marks h some top) ∙ rw fit
unit-step method u marks false sound h fits some top fit =
    fault_by method u marks true sound h fits (unit-keeps method u marks h some top) ∙ rw fit
