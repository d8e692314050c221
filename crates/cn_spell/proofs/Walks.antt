-- The units that are written between a digit or a section and the lower digits of its number.
-- `step` is the number of digits that are added together: 1 for a digit, 4 for a section.
use Rattle.std.proofs.Common.{◌≡◌, ℕ, suc, ◌+◌, ◌-◌, ◌*◌, ◌/◌, ◌%◌, ◌^◌, ◌<◌, ◌≤◌, max, Bool, true, false, inl, inr, ◌==◌, ◌&&◌, ◌||◌, nat_le, nat_lt, List, [], ◌∷◌, ◌++◌, refl, sym, ap, ◌∙◌, arith, append_assoc, append-nil}
use Rattle.std.proofs.lemmas.Bool.{agree_below, agree_below_at, and_parts, or_cases, eqb-true, ltb-true}
use Rattle.std.proofs.lemmas.Bool.Decides.{nat_tests}
use Rattle.std.proofs.Math.Arith.{mod-mul}
use Rattle.std.proofs.Math.Decide.{dec_lt}
use Rattle.std.proofs.Math.Nat.{mul-le-mul_left, mul-le-mul_right, pow-le-pow_right, mod-lt, one-le-pow, div-lt_iff_lt-mul, le-div_iff_mul-le}
use Rattle.std.proofs.lemmas.Grind.{pow_more}
use Rattle.std.proofs.lemmas.Nat.{pow-add, div-add-mod'}
use Rattle.cn_core.specs.declared.method.ChineseCountMethod.{ChineseCountMethod}
use Rattle.cn_core.specs.declared.method.ChineseCountMethod.TheVariants.{Low}
use Rattle.cn_core.specs.Mark.{Mark, digit, unit}
use Rattle.cn_core.specs.Scale.{scale, exponent}
use Rattle.cn_core.proofs.Cuts.{part, gap, part-cut}
use Rattle.cn_spell.specs.Working.Sections.{sections_within, kept}
use Rattle.cn_spell.specs.Working.Units.{widths_of, powers_within, rank_at, start_of, unit_behind, units_over, units_behind}

-- the number has digits only at the powers below `filled`, and the highest of these is not 0
pub record Fills (filled number : ℕ) : Type 0 where
  pub below : (power : ℕ) → filled ≤ power → number < 10 ^ power
  pub reach : (power : ℕ) → power < filled → 10 ^ power ≤ number

-- this unit is at most the one of the rank, or has at least `top` powers
abbrev is_past : ChineseCountMethod → ℕ → ℕ → ℕ → Bool
is_past method top rank more = nat_le more rank || nat_le top (exponent method more)

-- the unit of this rank has this size, and no number of `top` digits reaches a greater one
abbrev is_unit : ChineseCountMethod → ℕ → ℕ → ℕ → Bool
is_unit method size top rank =
    nat_lt 0 rank && nat_le rank 15 && exponent method rank == size
    && nat_le top (exponent method 15 + exponent method 15)
    && agree_below (is_past method top rank) (λ more. true) 16

-- a group inside one that begins at `base` begins there too, or at a unit
abbrev is_start : ℕ → ChineseCountMethod → ℕ → ℕ → ℕ → Bool
is_start step method power base start = base == start || (nat_lt base start
    && is_unit method (start - base) (power - base + step) (rank_at method start))

-- each group of these widths that contains the power does, and the last begins at the power
abbrev has_starts : ℕ → ChineseCountMethod → ℕ → ℕ → List ℕ → Bool
has_starts step method power base [] = base == power
has_starts step method power base (width ∷ widths) =
    is_start step method power base (start_of width power)
    && has_starts step method power (start_of width power) widths

-- a group that does not begin at the power begins at least `space` powers below
abbrev pub is_spaced : ℕ → ℕ → ℕ → List ℕ → Bool
is_spaced space power base [] = base == power
is_spaced space power base (width ∷ widths) =
    (start_of width power == power || nat_le (start_of width power + space) power)
    && is_spaced space power (start_of width power) widths

abbrev has_units : ℕ → ChineseCountMethod → ℕ → Bool
has_units step method power = has_starts step method power 0 (widths_of method)

abbrev has_section : ChineseCountMethod → ℕ → Bool
has_section method index =
    has_units 4 method (4 * index) && is_spaced 4 (4 * index) 0 (widths_of method)

abbrev pub HasUnits : ℕ → ChineseCountMethod → ℕ → Type 0
HasUnits step method power = has_units step method power ≡ true

abbrev pub IsSpaced : ℕ → ChineseCountMethod → ℕ → Type 0
IsSpaced space method power = is_spaced space power 0 (widths_of method) ≡ true

-- the tests hold for each digit and for each section that a method writes
tables : (method : ChineseCountMethod)
    → (agree_below (has_units 1 method) (λ n. true) (powers_within method) ≡ true)
    × (agree_below (has_section method) (λ n. true) (suc (sections_within method)) ≡ true)
tables Low = (refl, refl)
tables method = (refl, refl)

pub HasUnits-digit : (method : ChineseCountMethod) (power : ℕ) → power < powers_within method
    → HasUnits 1 method power
HasUnits-digit method power = agree_below_at (has_units 1 method) (λ n. true)
    (powers_within method) power (tables method).0

pub HasUnits-section : (method : ChineseCountMethod) (index : ℕ) → index ≤ sections_within method
    → HasUnits 4 method (4 * index) × IsSpaced 4 method (4 * index)
HasUnits-section method index within = and_parts (has_units 4 method (4 * index)) _
    (agree_below_at (has_section method) (λ n. true) (suc (sections_within method)) index
    (tables method).1 (omega (arith, within)))

-- a number with at most `top` powers is cut at such a unit
cut : (method : ChineseCountMethod) (high low size top rank : ℕ)
    → is_unit method size top rank ≡ true → 0 < high → low < 10 ^ size
    → high * 10 ^ size + low < 10 ^ top
    → part method (high * 10 ^ size + low)
    ≡ part method high ++ (unit rank ∷ (gap low (10 ^ size) ++ part method low))
cut method high low size top rank h pos less fits =
    let tests = and_parts _ (agree_below (is_past method top rank) (λ more. true) 16) h in
    let is_size : size ≡ exponent method rank = grind (arith, nat_tests, tests.0) in
    let whole : 10 ^ size ≡ scale method rank = ap (λ n. 10 ^ n) is_size in
    let below : (n : ℕ) → top ≤ n → high * scale method rank + low < 10 ^ n = λ n most.
    let p : 10 ^ top ≤ 10 ^ n = pow-le-pow_right (omega arith) most in
    let q : high * scale method rank + low < 10 ^ top = rw whole at fits in omega (arith, p, q) in
    rw whole (part-cut method high low rank (grind (arith, nat_tests, tests.0))
    (grind (arith, nat_tests, tests.0)) pos (rw whole at less) (λ more up last.
    let past = agree_below_at (is_past method top rank) (λ n. true) 16 more tests.1
    (omega (arith, last)) in below (exponent method more) (grind (arith, nat_tests, past, up)))
    (rw pow-add at (below (exponent method 15 + exponent method 15)
    (grind (arith, nat_tests, tests.0)))))

-- 零 is written if a power below the unit is empty
gap-flag : (base start filled low : ℕ) → base < start → filled ≤ start → Fills (filled - base) low
    → (nat_lt 0 low && nat_lt low (10 ^ (start - base) / 10))
    ≡ (max filled (base + 1) == filled && nat_lt filled start)
gap-flag base start filled low some under fills =
    let size : start - base ≡ start - base - 1 + 1 = omega (arith, some) in
    let tenfold : 10 ^ (start - base) ≡ 10 ^ (start - base - 1) * 10 =
    ap (λ n. 10 ^ n) size ∙ pow_more 10 (start - base - 1) in
    grind (
      arith,
      nat_tests,
      tenfold,
      fills.below 0,
      fills.reach 0,
      fills.below (start - base - 1),
      fills.reach (start - base - 1),
    )

-- the part of a number above some powers
Fills-above : (filled size number : ℕ) → Fills filled number
    → Fills (filled - size) (number / 10 ^ size)
Fills-above filled size number fills =
    let some : 0 < 10 ^ size = one-le-pow size 10 (omega arith) in
    record {
      below = λ power most. (div-lt_iff_lt-mul some).1
          (rw pow-add at (fills.below (power + size) (omega (arith, most))));
      reach = λ power less. (le-div_iff_mul-le some).1
          (rw pow-add at (fills.reach (power + size) (omega (arith, less))));
    }

-- no group that contains a power begins above it
over-none : (method : ChineseCountMethod) (widths : List ℕ) (power filled above : ℕ)
    → power < above → units_over method power filled above widths ≡ []
over-none method [] power filled above past = refl
over-none method (width ∷ widths) power filled above past =
    let test : nat_le above (start_of width power) ≡ false = grind (arith, nat_tests, past) in
    rw test (over-none method widths power filled above past)

-- one or more digits before the lower marks: between them are the units of the groups that they are
-- the first to fill
lead-over : (step : ℕ) (method : ChineseCountMethod) (widths : List ℕ)
    (power base lead below filled : ℕ) → has_starts step method power base widths ≡ true
    → base ≤ power → 0 < lead → lead < 10 ^ step → filled ≤ power → Fills (filled - base) below
    → part method (lead * 10 ^ (power - base) + below) ≡ part method lead
    ++ (units_over method power filled (max filled (base + 1)) widths ++ part method below)
lead-over step method [] power base lead below filled h within pos less under fills =
    let end : power - base ≡ 0 = grind (arith, nat_tests, h) in
    let none : below ≡ 0 = omega (arith, fills.below 0 (omega (arith, end, under))) in
    let only : lead * 10 ^ 0 + 0 ≡ lead = omega arith in
    rw (end, none, only) (sym (append-nil (part method lead)))
lead-over step method (width ∷ widths) power base lead below filled h within pos less under fills =
    let start = start_of width power in
    let both = and_parts (is_start step method power base start) _ h in
    let ends : start ≤ power = omega arith in
    elim (or_cases (base == start) _ both.0) [
      | inl equal ↦
          let same : base ≡ start = eqb-true base start equal in
          let test : nat_le (max filled (start + 1)) start ≡ false = grind (arith, nat_tests) in
          rw (same, test) (lead-over step method widths power start lead below filled both.1 ends
          pos less under (rw same at fills))
      | inr new ↦
          let all = power - base in
          let size = start - base in
          let rest = power - start in
          let tests = and_parts (nat_lt base start) (is_unit method size (all + step)
          (rank_at method start)) new in
          let far : base < start = ltb-true base start tests.0 in
          let high = below / 10 ^ size in
          let low = below % 10 ^ size in
          let low_small : low < 10 ^ size = mod-lt below (one-le-pow size 10 (omega arith)) in
          let split : below ≡ high * 10 ^ size + low = sym (div-add-mod' below (10 ^ size)) in
          let raised : 10 ^ all ≡ 10 ^ rest * 10 ^ size = let e : all ≡ rest + size =
          omega (arith, far, ends) in ap (λ n. 10 ^ n) e ∙ pow-add 10 rest size in
          let rest_fills : Fills (filled - start) high =
          let e : filled - base - size ≡ filled - start = omega (arith, far) in
          rw e at (Fills-above (filled - base) size below fills) in
          let known = lead-over step method widths power start lead high filled both.1 ends pos less
          under rest_fills in
          let most : (lead + 1) * 10 ^ all ≤ 10 ^ step * 10 ^ all =
          mul-le-mul_right (10 ^ all) (omega (arith, less)) in
          let fits : lead * 10 ^ all + below < 10 ^ (all + step) =
          rw pow-add (omega (arith, most, fills.below all (omega (arith, under)))) in
          let whole : lead * 10 ^ all + below ≡ (lead * 10 ^ rest + high) * 10 ^ size + low =
          omega (arith, ap (λ n. lead * n) raised, split) in
          let lead_some : 0 < lead * 10 ^ rest + high =
          omega (arith, mul-le-mul_left lead (one-le-pow rest 10 (omega arith)), pos) in
          let tail = unit (rank_at method start) ∷ (gap low (10 ^ size) ++ part method low) in
          let joined : part method (lead * 10 ^ all + below) ≡ part method lead
          ++ (units_over method power filled (max filled (start + 1)) widths
          ++ (part method high ++ tail)) = ap (λ n. part method n) whole
          ∙ cut method (lead * 10 ^ rest + high) low size (all + step) (rank_at method start)
          tests.1 lead_some low_small (omega (arith, fits, whole))
          ∙ ap (λ marks. marks ++ tail) known ∙ simp append_assoc in
          elim (dec_lt start filled) [
            | yes deep ↦
                let test : nat_le (max filled (base + 1)) start ≡ false =
                grind (arith, nat_tests, deep) in
                let above : max filled (base + 1) ≡ max filled (start + 1) =
                omega (arith, deep, far) in
                let some : 0 < high = omega (arith, rest_fills.reach 0 (omega (arith, deep))) in
                let lower : part method below ≡ part method high ++ tail =
                ap (λ n. part method n) split ∙ cut method high low size (all + step)
                (rank_at method start) tests.1 some low_small (omega (arith, fits, split)) in
                rw (test, above, lower) joined
            | no short ↦
                let test : nat_le (max filled (base + 1)) start ≡ true =
                grind (arith, nat_tests, short, far) in
                let above : max filled (start + 1) ≡ start + 1 = omega (arith, short) in
                let none : high ≡ 0 = omega (arith, rest_fills.below 0 (omega (arith, short))) in
                let same : low ≡ below = omega (arith, rw none at split) in
                let flag = gap-flag base start filled below far (omega (arith, short)) fills in
                rw (test, ← flag, append_assoc) (rw (above, none, same) at joined)
          ]
    ]

pub lead-more : (step : ℕ) (method : ChineseCountMethod) (power lead below filled : ℕ)
    → HasUnits step method power → 0 < lead → lead < 10 ^ step → filled ≤ power
    → Fills filled below → part method (lead * 10 ^ power + below)
    ≡ part method lead ++ (units_behind method power filled ++ part method below)
lead-more step method power lead below filled h pos less under fills =
    let same : power - 0 ≡ power = omega arith in
    let all : filled - 0 ≡ filled = omega arith in
    rw same at (lead-over step method (widths_of method) power 0 lead below filled h (omega arith)
    pos less under (rw all fills))

-- the lowest `step` digits of a number from a power up
abbrev pub digits_at : ℕ → ℕ → ℕ → ℕ
digits_at step number power = number / 10 ^ power % 10 ^ step

pub lower-less : (number power : ℕ) → number % 10 ^ power < 10 ^ power
lower-less number power = mod-lt number (one-le-pow power 10 (omega arith))

pub lower-split : (step number power : ℕ) → number % 10 ^ (power + step)
    ≡ digits_at step number power * 10 ^ power + number % 10 ^ power
lower-split step number power =
    let e : 10 ^ (power + step) ≡ 10 ^ step * 10 ^ power = pow-add 10 power step ∙ omega arith in
    rw e (mod-mul number (one-le-pow step 10 (omega arith)) (one-le-pow power 10 (omega arith)))

-- digits that are all 0 add nothing
pub lower-same : (step number power : ℕ) → digits_at step number power ≡ 0
    → number % 10 ^ (power + step) ≡ number % 10 ^ power
lower-same step number power none =
    lower-split step number power
    ∙ ap (λ d. d * 10 ^ power + number % 10 ^ power) none ∙ omega arith

-- any others are written before the lower marks
pub part-more : (step : ℕ) (method : ChineseCountMethod) (number power filled : ℕ)
    → HasUnits step method power → 0 < digits_at step number power → filled ≤ power
    → Fills filled (number % 10 ^ power)
    → part method (number % 10 ^ (power + step)) ≡ part method (digits_at step number power)
    ++ (units_behind method power filled ++ part method (number % 10 ^ power))
part-more step method number power filled h pos under fills =
    ap (λ n. part method n) (lower-split step number power)
    ∙ lead-more step method power (digits_at step number power) (number % 10 ^ power) filled h pos
    (mod-lt (number / 10 ^ power) (one-le-pow step 10 (omega arith))) under fills

pub Fills-more : (step number power size : ℕ) → digits_at step number power < 10 ^ size
    → 10 ^ size ≤ 10 * digits_at step number power
    → Fills (power + size) (number % 10 ^ (power + step))
Fills-more step number power size below reach =
    let digits = digits_at step number power in
    let split = lower-split step number power in
    let raised = pow-add 10 power size in
    let small = lower-less number power in
    let most : (digits + 1) * 10 ^ power ≤ 10 ^ size * 10 ^ power =
    mul-le-mul_right (10 ^ power) (omega (arith, below)) in
    let least : 10 ^ size * 10 ^ power ≤ 10 * digits * 10 ^ power =
    mul-le-mul_right (10 ^ power) reach in
    record {
      below = λ more past. let p : 10 ^ (power + size) ≤ 10 ^ more =
          pow-le-pow_right (omega arith) past in omega (arith, p, most);
      reach = λ less under. let p : 10 ^ (less + 1) ≤ 10 ^ (power + size) =
          pow-le-pow_right (omega arith) (omega (arith, under))
          in omega (arith, p, pow_more 10 less, split, raised, least);
    }

-- the first of the units is that of the power, and the only one if no group begins from `above` up
-- to the power
over-head : (space : ℕ) (method : ChineseCountMethod) (widths : List ℕ)
    (power base filled above : ℕ) → is_spaced space power base widths ≡ true → base < power
    → above ≤ power → (rest : List Mark)
    × (units_over method power filled above widths ≡ unit (rank_at method power) ∷ rest)
    × (power < above + space → rest ≡ kept (above == filled && nat_lt filled power) (digit 0))
over-head space method [] power base filled above h less reach =
    absurd (grind (arith, nat_tests, h, less))
over-head space method (width ∷ widths) power base filled above h less reach =
    let start = start_of width power in
    let both = and_parts _ (is_spaced space power start widths) h in
    elim (dec_lt start power) [
      | no outside ↦
          let same : start ≡ power = omega (arith, outside) in
          let test : nat_le above power ≡ true = grind (arith, nat_tests, reach) in (
            kept (above == filled && nat_lt filled power) (digit 0),
            rw (same, test, over-none method widths power filled (power + 1) (omega arith)) refl,
            λ near. refl,
          )
      | yes inside ↦ elim (dec_lt start above) [
        | yes short ↦
            let test : nat_le above start ≡ false = grind (arith, nat_tests, short) in
            let more = over-head space method widths power start filled above both.1 inside reach in
            (more.0, rw test more.1, more.2)
        | no long ↦
            let test : nat_le above start ≡ true = grind (arith, nat_tests, long) in
            let more = over-head space method widths power start filled (start + 1) both.1 inside
            (omega (arith, inside)) in (
              more.0 ++ unit_behind method filled above start,
              rw test (ap (λ marks. marks ++ unit_behind method filled above start) more.1),
              λ near. absurd (grind (arith, nat_tests, near, long, inside, both.0)),
            )
      ]
    ]

pub behind-head : (space : ℕ) (method : ChineseCountMethod) (power filled : ℕ)
    → IsSpaced space method power → 0 < power → filled ≤ power → (rest : List Mark)
    × (units_behind method power filled ≡ unit (rank_at method power) ∷ rest)
    × (power < max filled 1 + space
    → rest ≡ kept (max filled 1 == filled && nat_lt filled power) (digit 0))
behind-head space method power filled h pos under =
    over-head space method (widths_of method) power 0 filled (max filled 1) h pos (omega arith)

-- no unit is written after the lowest digit
pub behind-zero : (method : ChineseCountMethod) → units_behind method 0 0 ≡ []
behind-zero method = over-none method (widths_of method) 0 0 1 (omega arith)
