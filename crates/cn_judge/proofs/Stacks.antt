-- The open units as they are stored in an array.
use Rattle.std.proofs.Common.{◌≡◌, ℕ, nat_lt, Bool, Some, None, if◌then◌else◌, zero, suc, ◌+◌, ◌*◌, ◌^◌, ◌<◌, ◌≤◌, true, false, nat_le, List, [], ◌∷◌, length, slice_index_or, slice_set, refl, ap, arith, add-one}
use Rattle.std.proofs.lemmas.Grind.{common_steps}
use Rattle.cn_core.specs.declared.method.ChineseCountMethod.{ChineseCountMethod}
use Rattle.cn_core.specs.Scale.{scale}
use Rattle.cn_judge.specs.declared.open_units.OpenUnit.{OpenUnit}
use Rattle.cn_core.specs.Mark.{Mark, digit, unit, other}
use Rattle.cn_judge.specs.Entries.{stacked}
use Rattle.cn_judge.specs.Private.Walk.{opens_of}
use Rattle.cn_core.proofs.ScaleLaws.{scale-pos}
use Rattle.cn_core.proofs.Fronts.{and-left, and-right}
use Rattle.std.proofs.lemmas.Bool.Decides.{nat_tests}
use Rattle.cn_judge.specs.Private.Stack.{StackEntry, all_scales_fit, stack_of, opened_at, no_unit, ClosesTop, all_positive, closed_sum, still_open, top_of, total_sum}

pub length-stacked : {Entry Meaning : Type 0} (meaning : Entry → Meaning) (none : Entry)
    (entries : List Entry) (len : ℕ) → length (stacked meaning none entries len) ≡ len
length-stacked meaning none entries zero = refl
length-stacked meaning none entries (suc len) = ap suc (length-stacked meaning none entries len)

set_other : {Entry : Type 0} (none : Entry) (entries : List Entry) (i k : ℕ) (e : Entry) → k < i
    → slice_index_or (slice_set entries i e) k none ≡ slice_index_or entries k none
set_other none entries i k e h = grind (arith, common_steps)

set_same : {Entry : Type 0} (none : Entry) (entries : List Entry) (i : ℕ) (e : Entry)
    → i < length entries → slice_index_or (slice_set entries i e) i none ≡ e
set_same none entries i e h = grind (arith, common_steps)

stacked-set : {Entry Meaning : Type 0} (meaning : Entry → Meaning) (none : Entry)
    (entries : List Entry) (i len : ℕ) (e : Entry) → len ≤ i
    → stacked meaning none (slice_set entries i e) len ≡ stacked meaning none entries len
stacked-set meaning none entries i zero e h = refl
stacked-set meaning none entries i (suc len) e h = rw (
  set_other none entries i len e (omega arith),
  stacked-set meaning none entries i len e (omega arith),
)

pub stacked-push : {Entry Meaning : Type 0} (meaning : Entry → Meaning) (none : Entry)
    (entries : List Entry) (len : ℕ) (e : Entry) → len < length entries
    → stacked meaning none (slice_set entries len e) (len + 1)
    ≡ meaning e ∷ stacked meaning none entries len
stacked-push meaning none entries len e h = rw (
  add-one,
  set_same none entries len e h,
  stacked-set meaning none entries len len e (omega arith),
)

some_same : (a b : ℕ) → Some a ≡ Some b → a ≡ b
some_same a b h = cc

-- closing a unit never lowers the sum
sum_grows : (sum size more : ℕ) → 0 < size → sum ≤ sum * size + more
sum_grows sum size more h = grind arith

pub total-grows : (units : List StackEntry) (sum : ℕ) → all_positive units ≡ true
    → sum ≤ total_sum sum units
total-grows [] sum h = omega arith
total-grows (top ∷ units) sum h =
    let t : nat_lt 0 top.1 ≡ true = and-left (nat_lt 0 top.1) _ h in
    let p : 0 < top.1 = grind (arith, nat_tests) in
    let ih = total-grows units (sum * top.1 + top.2) (and-right (nat_lt 0 top.1) _ h) in
    let g = sum_grows sum top.1 top.2 p in omega (arith, ih, g)

pub closed-grows : (limit : ℕ) (units : List StackEntry) (sum : ℕ) → all_positive units ≡ true
    → sum ≤ closed_sum limit sum units
closed-grows limit [] sum h = omega arith
closed-grows limit (top ∷ units) sum h =
    by (nat_lt top.0 limit) (closed-grows limit units (sum * top.1 + top.2)
    (and-right (nat_lt 0 top.1) _ h)) where
      by : (b : Bool) → sum * top.1 + top.2 ≤ closed_sum limit (sum * top.1 + top.2) units
          → sum ≤ (if b then closed_sum limit (sum * top.1 + top.2) units else sum)
      by true ih =
          let t : nat_lt 0 top.1 ≡ true = and-left (nat_lt 0 top.1) _ h in
          let p : 0 < top.1 = grind (arith, nat_tests) in
          let g = sum_grows sum top.1 top.2 p in omega (arith, g, ih)
      by false ih = omega arith

pub closed-past : (limit t sum : ℕ) (before after : List StackEntry) → Some t ≡ top_of before
    → t < limit → ClosesTop sum before after None → all_positive before ≡ true
    → ¬ (closed_sum limit sum before < 2 ^ 128)
closed-past limit t sum [] after is low h p = cc
closed-past limit t sum (top ∷ units) after is low h p =
    let same = some_same t top.0 is in
    let test : nat_lt top.0 limit ≡ true = grind (arith, nat_tests) in
    let grows = closed-grows limit units (sum * top.1 + top.2) (and-right (nat_lt 0 top.1) _ p) in
    rw test (λ small. h.1 (omega (arith, small, grows)))

pub total-past : (sum : ℕ) (before after : List StackEntry) → 0 < length before
    → ClosesTop sum before after None → all_positive before ≡ true
    → ¬ (total_sum sum before < 2 ^ 128)
total-past sum [] after some h p = absurd (omega (arith, some))
total-past sum (top ∷ units) after some h p =
    let grows = total-grows units (sum * top.1 + top.2) (and-right (nat_lt 0 top.1) _ p) in
    λ small. h.1 (omega (arith, small, grows))

-- the scales of a walk's open units are above 0
pub positive-left : (limit : ℕ) (units : List StackEntry) → all_positive units ≡ true
    → all_positive (still_open limit units) ≡ true
positive-left limit [] h = h
positive-left limit (top ∷ units) h = by (nat_lt top.0 limit) (positive-left limit units
    (and-right (nat_lt 0 top.1) _ h)) where
      by : (b : Bool) → all_positive (still_open limit units) ≡ true
          → all_positive (if b then still_open limit units else top ∷ units) ≡ true
      by true ih = ih
      by false ih = h

pub positive-opens : (method : ChineseCountMethod) (marks : List Mark)
    → all_positive (opens_of method marks) ≡ true
positive-opens method [] = refl
positive-opens method (digit value ∷ rest) = positive-opens method rest
positive-opens method (other ∷ rest) = positive-opens method rest
positive-opens method (unit rank ∷ rest) =
    let p = scale-pos method rank in
    let t : nat_lt 0 (scale method rank) ≡ true = test (scale method rank) p in
    rw t (positive-left (rank + 1) (opens_of method rest) (positive-opens method rest)) where
      test : (n : ℕ) → 0 < n → nat_lt 0 n ≡ true
      test n h = grind (arith, nat_tests)

pub some_entries : (entries : List OpenUnit) (len : ℕ) (units : List StackEntry)
    → stack_of entries len ≡ units → 0 < len → 0 < length units
some_entries entries len units is some = let same =
    ap length is in omega (arith, same, length-stacked opened_at no_unit entries len, some)

-- if all scales fit, they still do after one entry is replaced by an entry whose scale fits
pub scales-set : (entries : List OpenUnit) (i : ℕ) (e : OpenUnit) → e.exponent ≤ 38
    → all_scales_fit entries ≡ true → all_scales_fit (slice_set entries i e) ≡ true
scales-set [] i e fits h = h
scales-set (entry ∷ entries) zero e fits h =
    let test : nat_le e.exponent 38 ≡ true = grind (arith, nat_tests) in
    rw test (and-right (nat_le entry.exponent 38) _ h)
scales-set (entry ∷ entries) (suc i) e fits h =
    rw (and-left (nat_le entry.exponent 38) _ h)
    (scales-set entries i e fits (and-right (nat_le entry.exponent 38) _ h))

pub scale-fits-at : (entries : List OpenUnit) (i : ℕ) → all_scales_fit entries ≡ true
    → (slice_index_or entries i no_unit).exponent ≤ 38
scale-fits-at [] i h = omega arith
scale-fits-at (entry ∷ entries) zero h =
    let test = and-left (nat_le entry.exponent 38) _ h in grind (arith, nat_tests)
scale-fits-at (entry ∷ entries) (suc i) h =
    scale-fits-at entries i (and-right (nat_le entry.exponent 38) _ h)
