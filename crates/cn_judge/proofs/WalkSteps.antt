-- The steps of the walk, in terms of its state.
use Rattle.std.proofs.Common.{◌≡◌, ◌≢◌, ◌↔◌, ℕ, ◌+◌, ◌^◌, ◌<◌, Bool, true, false, List, [], ◌∷◌, length, Option, Some, None, refl, sym, ap, ◌∙◌, arith, if◌then◌else◌, ◌++◌, append_assoc, filter, chars, Result, Ok, Err, subst}
use Rattle.std.specs.Result.{IsErr, IsErrAnd, MatchResult}
use Rattle.cn_core.specs.declared.method.ChineseCountMethod.{ChineseCountMethod}
use Rattle.cn_core.specs.Characters.{digit_of, rank_of}
use Rattle.cn_core.specs.Mark.{Mark, digit, unit, mark_of, mark_from}
use Rattle.cn_core.specs.Refusal.{Refusal, incorrect_at, too_large}
use Rattle.cn_core.specs.Scale.{scale, scale_fits}
use Rattle.cn_core.specs.Text.{text_of, marks_of}
use Rattle.cn_core.proofs.OpenUnits.{in_ranks-marks, digit_of-low}
use Rattle.cn_judge.specs.declared.walk.Fault.{Fault}
use Rattle.cn_judge.specs.declared.mark.Mark.{Mark as ReadMark}
use Rattle.cn_judge.specs.declared.mark.Mark.TheVariants.{Digit}
use Rattle.cn_judge.specs.Private.Walk.{sum_of, opens_of, fault_of, faults, leading_rank, multiplies_by, unit_next, further_or}
use Rattle.std.specs.Char.{is_whitespace, is_not_whitespace}
use Rattle.std.proofs.lemmas.List.{length-map, map-append}
use Rattle.cn_core.specs.CharIndex.{char_index_of}
use Rattle.cn_judge.specs.Piece.{StandsAt, EndsWith, answer_at}
use Rattle.cn_judge.proofs.Walking.{filter-append}
use Rattle.cn_judge.proofs.Pieces.{char_index-at}
use Rattle.cn_judge.specs.Private.Stack.{StackEntry, closed_sum, still_open, all_positive, top_of}
use Rattle.cn_judge.specs.Private.Walked.{IsWalked}
use Rattle.cn_judge.proofs.Stacks.{positive-opens}
use Rattle.cn_judge.proofs.Steps.{sound-none, unit-past, unit-alone, unit-same, unit-step, opens-next, opens-room}

-- what the results of the tests say about the marks
leading : (u : ℕ) (marks : List Mark) {a b : Option ℕ} → a ≡ b → b ≡ leading_rank marks
    → true ≡ multiplies_by u a → multiplies_by u (leading_rank marks) ≡ true
leading u marks p q h = sym (ap (multiplies_by u) (p ∙ q)) ∙ sym h

sum_same : (method : ChineseCountMethod) (u : ℕ) (walked : List ℕ) (sum : ℕ)
    (units : List StackEntry) (next : Option ReadMark) → IsWalked method walked sum units next
    → closed_sum u sum units ≡ closed_sum u (sum_of (marks_of walked))
    (opens_of method (marks_of walked))
sum_same method u walked sum units next w =
    ap (λ s. closed_sum u s units) w.sum_is
    ∙ ap (closed_sum u (sum_of (marks_of walked))) w.units_are

left_same : (method : ChineseCountMethod) (u : ℕ) (walked : List ℕ) (sum : ℕ)
    (units after : List StackEntry) (next : Option ReadMark) → after ≡ still_open u units
    → IsWalked method walked sum units next
    → after ≡ still_open u (opens_of method (marks_of walked))
left_same method u walked sum units after next gives w = gives ∙ ap (still_open u) w.units_are

top_same : (method : ChineseCountMethod) (u : ℕ) (walked : List ℕ) (sum : ℕ)
    (units after : List StackEntry) (next : Option ReadMark) → after ≡ still_open u units
    → IsWalked method walked sum units next
    → top_of after ≡ top_of (still_open u (opens_of method (marks_of walked)))
top_same method u walked sum units after next gives w =
    ap top_of (left_same method u walked sum units after next gives w)

not_top : (method : ChineseCountMethod) (u : ℕ) (walked : List ℕ) (sum : ℕ)
    (units after : List StackEntry) (next : Option ReadMark) → after ≡ still_open u units
    → ((true ≡ false) ↔ (top_of after ≡ Some u))
    → IsWalked method walked sum units next
    → top_of (still_open u (opens_of method (marks_of walked))) ≢ Some u
not_top method u walked sum units after next gives differs w same = let t =
    differs.1 (top_same method u walked sum units after next gives w ∙ same) in cc

fits_same : (method : ChineseCountMethod) (u : ℕ) (walked : List ℕ) (sum : ℕ)
    (units : List StackEntry) (next : Option ReadMark) → closed_sum u sum units < 2 ^ 128
    → IsWalked method walked sum units next
    → closed_sum u (sum_of (marks_of walked)) (opens_of method (marks_of walked)) < 2 ^ 128
fits_same method u walked sum units next fits w = let same =
    sum_same method u walked sum units next w in omega (arith, same, fits)

pub walked-positive : (method : ChineseCountMethod) (walked : List ℕ) (sum : ℕ)
    (units : List StackEntry) (next : Option ReadMark) → IsWalked method walked sum units next
    → all_positive units ≡ true
walked-positive method walked sum units next w =
    ap all_positive w.units_are ∙ positive-opens method (marks_of walked)

pub walked-past : (method : ChineseCountMethod) (u sum : ℕ) (units : List StackEntry)
    (next : Option ReadMark) (a : Option ℕ) → a ≡ unit_next next → true ≡ multiplies_by u a
    → ¬ (closed_sum u sum units < 2 ^ 128)
    → (walked : List ℕ) → IsWalked method walked sum units next
    → fault_of method (unit u) (marks_of walked) ≡ Some too_large
walked-past method u sum units next a is h past walked w =
    unit-past method u (marks_of walked) (sound-none method _ w.sound)
    (leading u _ is w.after_unit h)
    (λ fits. past (let same = sum_same method u walked sum units next w
    in omega (arith, same, fits)))

pub walked-alone : (method : ChineseCountMethod) (u sum : ℕ) (units : List StackEntry)
    (next : Option ReadMark) (a : Option ℕ) → a ≡ unit_next next → true ≡ multiplies_by u a
    → closed_sum u sum units < 2 ^ 128 → ((false ≡ false) ↔ ((u ≡ 0) × (a ≡ None)))
    → (walked : List ℕ) → IsWalked method walked sum units next
    → fault_of method (unit u) (marks_of walked) ≡ Some (incorrect_at 0)
walked-alone method u sum units next a is h fits alone walked w =
    unit-alone method u (marks_of walked) (sound-none method _ w.sound)
    (leading u _ is w.after_unit h) (fits_same method u walked sum units next fits w)
    (alone.0 refl).0 (sym (is ∙ w.after_unit) ∙ (alone.0 refl).1)

pub walked-same : (method : ChineseCountMethod) (u sum : ℕ) (units after : List StackEntry)
    (next : Option ReadMark) (a : Option ℕ) → a ≡ unit_next next → true ≡ multiplies_by u a
    → closed_sum u sum units < 2 ^ 128 → after ≡ still_open u units
    → ((false ≡ false) ↔ (top_of after ≡ Some u))
    → (walked : List ℕ) → IsWalked method walked sum units next
    → fault_of method (unit u) (marks_of walked) ≡ Some (incorrect_at 0)
walked-same method u sum units after next a is h fits gives top walked w =
    unit-same method u (marks_of walked) (sound-none method _ w.sound)
    (leading u _ is w.after_unit h) (fits_same method u walked sum units next fits w)
    (sym (top_same method u walked sum units after next gives w) ∙ top.0 refl)

pub walked-step : (method : ChineseCountMethod) (u sum : ℕ) (units after : List StackEntry)
    (next : Option ReadMark) (a : Option ℕ) (b : Bool) → a ≡ unit_next next
    → true ≡ multiplies_by u a
    → closed_sum u sum units < 2 ^ 128 → ((true ≡ false) ↔ ((u ≡ 0) × (a ≡ None)))
    → after ≡ still_open u units → ((true ≡ false) ↔ (top_of after ≡ Some u))
    → scale_fits method u ≡ b
    → (walked : List ℕ) → IsWalked method walked sum units next
    → fault_of method (unit u) (marks_of walked) ≡ (if b then None else Some too_large)
walked-step method u sum units after next a b is h fits alone gives top fit walked w =
    unit-step method u (marks_of walked) b (sound-none method _ w.sound)
    (leading u _ is w.after_unit h) (fits_same method u walked sum units next fits w)
    (λ z none. let t = alone.1 (z, is ∙ w.after_unit ∙ none) in cc)
    (not_top method u walked sum units after next gives top w) fit

pub walked-opens : (method : ChineseCountMethod) (u sum size below : ℕ)
    (units after : List StackEntry) (next : Option ReadMark)
    → size ≡ scale method u → below ≡ closed_sum u sum units → after ≡ still_open u units
    → ((true ≡ false) ↔ (top_of after ≡ Some u))
    → (walked : List ℕ) → IsWalked method walked sum units next
    → (u, size, below) ∷ after ≡ opens_of method (unit u ∷ marks_of walked)
walked-opens method u sum size below units after next size_is below_is gives top walked w =
    ap (λ n. (u, n, below) ∷ after) size_is
    ∙ ap (λ n. (u, scale method u, n) ∷ after)
    (below_is ∙ sum_same method u walked sum units next w)
    ∙ ap (λ l. (
      u,
      scale method u,
      closed_sum u (sum_of (marks_of walked))
          (opens_of method (marks_of walked)),
    )
    ∷ l) (left_same method u walked sum units after next gives w)
    ∙ sym (opens-next method u (marks_of walked)
    (not_top method u walked sum units after next gives top w))

pub walked-room : (method : ChineseCountMethod) (u sum : ℕ) (units after : List StackEntry)
    (next : Option ReadMark) → u < 16
    → after ≡ still_open u units → ((true ≡ false) ↔ (top_of after ≡ Some u))
    → (walked : List ℕ) → IsWalked method walked sum units next → length after < 16
walked-room method u sum units after next low gives top walked w =
    let room = opens-room method u (marks_of walked) (in_ranks-marks walked) low
    (not_top method u walked sum units after next gives top w) in
    let same = ap length (left_same method u walked sum units after next gives w) in
    omega (arith, room, same)

-- a fault stays a fault with marks before it, and its place grows by their number
past-front : (method : ChineseCountMethod) (front marks : List Mark)
    → faults method marks ≡ Some too_large → faults method (front ++ marks) ≡ Some too_large
past-front method [] marks h = h
past-front method (m ∷ front) marks h =
    ap (λ f. further_or f (fault_of method m (front ++ marks))) (past-front method front marks h)

wrong-front : (method : ChineseCountMethod) (front marks : List Mark) → faults method marks
    ≡ Some (incorrect_at 0) → faults method (front ++ marks) ≡ Some (incorrect_at (length front))
wrong-front method [] marks h = h
wrong-front method (m ∷ front) marks h =
    ap (λ f. further_or f (fault_of method m (front ++ marks))) (wrong-front method front marks h)

-- a digit's value is below 10
pub digit-low : (c value : ℕ) → digit value ≡ mark_of c → value < 10
digit-low c value h = by (digit_of c) (rank_of c) refl h where
  by : (d r : Option ℕ) → digit_of c ≡ d → digit value ≡ mark_from d r → value < 10
  by (Some v) r e h = let same : value ≡ v = cc in let low =
      digit_of-low c v e in omega (arith, same, low)
  by None (Some r) e h = cc
  by None None e h = cc

-- one more digit
pub walked-digit : (method : ChineseCountMethod) (c value sum total : ℕ) (units : List StackEntry)
    (next : Option ReadMark) (walked : List ℕ) → digit value ≡ mark_of c
    → IsWalked method walked sum units next
    → (fault_of method (digit value) (marks_of walked) ≡ None) × (total ≡ sum + value)
    → IsWalked method (c ∷ walked) total units (Some (Digit value))
walked-digit method c value sum total units next walked is w h = record {
  sum_is = rw (← is) (h.1 ∙ ap (λ n. n + value) w.sum_is);
  units_are = rw (← is) w.units_are;
  after_digit = rw (← is) refl;
  after_unit = rw (← is) refl;
  sound = rw (← is) (ap (λ f. further_or f (fault_of method (digit value) (marks_of walked)))
      w.sound ∙ h.0);
}

-- a fault that is passed on unchanged
pub handed-on : {A : Type 0} (r : Result A Fault) (fault : Fault) (Right : A → Type 0)
    (Wrong : Fault → Type 0)
    → IsErr r × IsErrAnd r (λ f. f ≡ fault) → Wrong fault → MatchResult r Right Wrong
handed-on (Ok a) fault Right Wrong h w = absurd h.1
handed-on (Err f) fault Right Wrong h w = subst Wrong (sym h.1) w

-- the state of a walk in a string, of which the piece `ahead` is not read yet
pub record HasWalked (method : ChineseCountMethod) (bytes ahead : List ℕ) (sum : ℕ)
    (units : List StackEntry) (next : Option ReadMark) : Type 0 where
  pub after : List ℕ
  pub parts : chars bytes ≡ chars ahead ++ after
  pub state : IsWalked method (filter is_not_whitespace after) sum units next

-- a step from the right: the characters after `c` that are not white space are those that were
-- walked
pub record EndsAt (bytes before after : List ℕ) (c : ℕ) : Type 0 where
  pub more : List ℕ
  pub parts : chars bytes ≡ chars before ++ c ∷ more
  pub kept : filter is_not_whitespace more ≡ filter is_not_whitespace after

ends-at : (bytes ahead before after : List ℕ) (c : ℕ) → chars bytes ≡ chars ahead ++ after
    → EndsWith ahead c before → EndsAt bytes before after c
ends-at bytes ahead before after c parts e = record {
  more = e.white ++ after;
  parts = parts ∙ ap (λ l. l ++ after) e.parts ∙ append_assoc (chars before) (c ∷ e.white) after;
  kept = filter-append is_not_whitespace e.white after
      ∙ ap (λ l. l ++ filter is_not_whitespace after) e.blank;
}

kept-dark : (c : ℕ) (more after : List ℕ) → is_whitespace c ≡ false
    → filter is_not_whitespace more ≡ filter is_not_whitespace after
    → filter is_not_whitespace (c ∷ more) ≡ c ∷ filter is_not_whitespace after
kept-dark c more after dark kept = rw dark (ap (λ l. c ∷ l) kept)

-- the refusal of the string's answer is the fault that the walk finds
abbrev pub StopsAt : ChineseCountMethod → ℕ → List ℕ → Refusal → Type 0
StopsAt method skipped bytes refusal =
    (fault : Refusal) × (faults method (marks_of (text_of bytes)) ≡ Some fault)
    × (Err refusal ≡ answer_at {T = ℕ} skipped bytes (Err fault))

text-parts : (bytes before after : List ℕ) (c : ℕ) → EndsAt bytes before after c
    → is_whitespace c ≡ false
    → marks_of (text_of bytes) ≡ marks_of (text_of before)
    ++ marks_of (c ∷ filter is_not_whitespace after)
text-parts bytes before after c at dark =
    ap (λ l. marks_of (filter is_not_whitespace l)) at.parts
    ∙ ap marks_of (filter-append is_not_whitespace (chars before) (c ∷ at.more))
    ∙ map-append mark_of (text_of before) (filter is_not_whitespace (c ∷ at.more))
    ∙ ap (λ l. marks_of (text_of before) ++ marks_of l) (kept-dark c at.more after dark at.kept)

fault_here : (method : ChineseCountMethod) (walked : List ℕ) (sum : ℕ) (units : List StackEntry)
    (next : Option ReadMark) (c : ℕ) (r : Refusal) → IsWalked method walked sum units next
    → fault_of method (mark_of c) (marks_of walked) ≡ Some r
    → faults method (marks_of (c ∷ walked)) ≡ Some r
fault_here method walked sum units next c r w h =
    ap (λ f. further_or f (fault_of method (mark_of c) (marks_of walked))) w.sound ∙ h

pub HasWalked-past : (method : ChineseCountMethod) (skipped : ℕ) (bytes ahead before : List ℕ)
    (sum : ℕ) (units : List StackEntry) (next : Option ReadMark) (c : ℕ)
    → HasWalked method bytes ahead sum units next
    → EndsWith ahead c before
    → ((walked : List ℕ) → IsWalked method walked sum units next
    → fault_of method (mark_of c) (marks_of walked) ≡ Some too_large)
    → StopsAt method skipped bytes too_large
HasWalked-past method skipped bytes ahead before sum units next c h e step =
    let walked = filter is_not_whitespace h.after in
    let at = ends-at bytes ahead before h.after c h.parts e in (
      too_large,
      ap (faults method) (text-parts bytes before h.after c at e.dark)
          ∙ past-front method (marks_of (text_of before)) (marks_of (c ∷ walked))
          (fault_here method walked sum units next c too_large h.state (step walked h.state)),
      refl,
    )

pub HasWalked-wrong : (method : ChineseCountMethod) (skipped : ℕ) (bytes ahead before : List ℕ)
    (sum : ℕ) (units : List StackEntry) (next : Option ReadMark) (c char_index : ℕ)
    → HasWalked method bytes ahead sum units next
    → EndsWith ahead c before
    → ((walked : List ℕ) → IsWalked method walked sum units next
    → fault_of method (mark_of c) (marks_of walked) ≡ Some (incorrect_at 0))
    → char_index ≡ skipped + length (chars before)
    → StopsAt method skipped bytes (incorrect_at char_index)
HasWalked-wrong method skipped bytes ahead before sum units next c char_index h e step place =
    let walked = filter is_not_whitespace h.after in
    let at = ends-at bytes ahead before h.after c h.parts e in
    let stands : StandsAt bytes (c ∷ at.more) (length (chars before)) (length (text_of before)) =
    record { front = chars before; parts = at.parts; index_is = refl; place_is = refl } in
    let index_is : char_index_of bytes (length (text_of before)) ≡ length (chars before) =
    char_index-at bytes at.more c _ _ stands e.dark in (
      incorrect_at (length (text_of before)),
      ap (faults method) (text-parts bytes before h.after c at e.dark)
          ∙ wrong-front method (marks_of (text_of before)) (marks_of (c ∷ walked))
          (fault_here method walked sum units next c (incorrect_at 0) h.state (step walked h.state))
          ∙ ap (λ n. Some (incorrect_at n)) (length-map (text_of before) mark_of),
      ap (λ n. Err (incorrect_at n)) (place ∙ ap (λ n. skipped + n) (sym index_is)),
    )
