-- The spelling of a number by sections of four digits.
use Rattle.std.proofs.Common.{◌≡◌, ℕ, zero, suc, ◌+◌, ◌-◌, ◌*◌, ◌/◌, ◌%◌, ◌^◌, ◌<◌, ◌≤◌, max, Bool, true, false, ◌==◌, ◌&&◌, ◌||◌, nat_le, nat_lt, List, [], ◌∷◌, ◌++◌, length, refl, sym, ap, ◌∙◌, arith, length-append, append-nil, if◌then◌else◌}
use Rattle.std.proofs.lemmas.Bool.{agree_below, agree_below_at}
use Rattle.std.proofs.lemmas.Bool.Decides.{nat_tests}
use Rattle.std.proofs.Math.Bool.{and-false}
use Rattle.std.proofs.Math.Decide.{dec_lt}
use Rattle.std.proofs.Math.Nat.{mod-lt, div-le_self}
use Rattle.std.proofs.lemmas.Nat.{div-add-mod'}
use Rattle.cn_core.specs.declared.method.ChineseCountMethod.{ChineseCountMethod}
use Rattle.cn_core.specs.declared.method.ChineseCountMethod.TheVariants.{Low}
use Rattle.cn_core.specs.Mark.{Mark, digit, unit}
use Rattle.cn_core.specs.Spelling.{spelling, short_spelling}
use Rattle.cn_core.proofs.Cuts.{part, part-some}
use Rattle.cn_core.proofs.Sums.{spelled-digit}
use Rattle.cn_spell.specs.Working.Sections.{HoldsSections, sections_within, above_limit, kept, section_marks}
use Rattle.cn_spell.specs.Working.Units.{powers_within, rank_at, units_behind}
use Rattle.cn_spell.proofs.Walks.{Fills, IsSpaced, HasUnits-section, lead-more, digits_at, part-more, behind-head, behind-zero}
use Rattle.cn_spell.proofs.Tops.{filled_of, Filled, part-none, parts-grow}
use Rattle.cn_spell.proofs.Single.{section-is}

-- a section that is not empty is written before the lower marks
pub section-more : (method : ChineseCountMethod) (number index filled : ℕ)
    → index ≤ sections_within method → 0 < digits_at 4 number (4 * index) → filled ≤ 4 * index
    → Fills filled (number % 10 ^ (4 * index)) → part method (number % 10 ^ (4 * index + 4))
    ≡ section_marks (digits_at 4 number (4 * index))
    ++ (units_behind method (4 * index) filled ++ part method (number % 10 ^ (4 * index)))
section-more method number index filled most pos under fills =
    part-more 4 method number (4 * index) filled (HasUnits-section method index most).0 pos under
    fills ∙ ap (λ marks. marks ++ (units_behind method (4 * index) filled
    ++ part method (number % 10 ^ (4 * index))))
    (section-is method (digits_at 4 number (4 * index))
    (mod-lt (number / 10 ^ (4 * index)) (omega arith)))

-- after a section whose next lower section is not empty, only its own unit is written
pub behind-near : (method : ChineseCountMethod) (power filled : ℕ) → 0 < power
    → power ≤ 4 * sections_within method → power % 4 ≡ 0 → filled ≤ power → power < filled + 4
    → units_behind method power filled
    ≡ unit (rank_at method power) ∷ kept (nat_lt filled power) (digit 0)
behind-near method power filled pos most four under near =
    let whole : 4 * (power / 4) ≡ power = omega (arith, four) in
    let spaced : IsSpaced 4 method power =
    rw whole at (HasUnits-section method (power / 4) (omega (arith, most))).1 in
    let head = behind-head 4 method power filled spaced pos under in
    let flag : (max filled 1 == filled && nat_lt filled power) ≡ nat_lt filled power =
    let some : 0 < filled = omega (arith, pos, four, near) in grind (arith, nat_tests, some) in
    rw (head.1, head.2 (omega (arith, near)), flag) refl

abbrev is_ten : ChineseCountMethod → ℕ → Bool
is_ten method index = rank_at method (4 * suc index) == 1

-- the sections lie within the method's powers, the unit of none is 十, and the number above them is
-- itself below 10^4
limits : (method : ChineseCountMethod)
    → (nat_lt (4 * sections_within method) (powers_within method) ≡ true)
    × (agree_below (is_ten method) (λ n. false) (sections_within method) ≡ true)
    × ((sections_within method == 0 || nat_le (above_limit method) (10 ^ 4)) ≡ true)
limits Low = (refl, refl, refl)
limits method = (refl, refl, refl)

-- 一 before 十 is left out only at the start
short_spelling-over : (marks rest : List Mark) (rank : ℕ) → (rank == 1) ≡ false
    → short_spelling (marks ++ (unit rank ∷ rest)) ≡ short_spelling marks ++ (unit rank ∷ rest)
short_spelling-over (digit d ∷ []) rest rank h = rw (h, and-false (d == 1)) refl
short_spelling-over (digit d ∷ unit first ∷ marks) rest rank h = by (d == 1 && first == 1) where
  by : (b : Bool) → (if b then unit first ∷ (marks ++ (unit rank ∷ rest))
      else digit d ∷ unit first ∷ (marks ++ (unit rank ∷ rest)))
      ≡ (if b then unit first ∷ marks else digit d ∷ unit first ∷ marks) ++ (unit rank ∷ rest)
  by true = refl
  by false = refl
short_spelling-over marks rest rank h = refl

-- the rest above the sections is spelled the same under each method
part-alike : (method : ChineseCountMethod) (lead : ℕ) → lead < above_limit method
    → part method lead ≡ part Low lead
part-alike Low lead small = refl
part-alike method lead small = section-is method lead small ∙ sym (section-is Low lead small)

-- the rest above the sections is spelled like a number of its own
spelling-above : (method : ChineseCountMethod) (number count lead filled : ℕ) {sections : List ℕ}
    → HoldsSections number sections count lead → count ≤ sections_within method
    → lead < above_limit method → Fills filled (number % 10 ^ (4 * count)) → filled ≤ 4 * count
    → spelling method number ≡ spelling Low lead
    ++ (units_behind method (4 * count) filled ++ part method (number % 10 ^ (4 * count)))
spelling-above method number zero lead filled held most small fills under =
    let none : filled ≡ 0 = omega (arith, under) in
    let same : lead ≡ number = omega (arith, held.split) in
    rw (none, behind-zero method, part-none method number, append-nil, ← same)
    (elim (dec_lt 0 lead) [
      | yes some ↦ ap short_spelling (sym (part-some method lead some)
          ∙ part-alike method lead small ∙ part-some Low lead some)
      | no empty ↦ let z : lead ≡ 0 = omega (arith, empty)
          in rw (z, spelled-digit 0 method 0 (omega arith)) refl
    ])
spelling-above method number (suc index) lead filled held most small fills under =
    let power = 4 * suc index in
    let below = number % 10 ^ power in
    let units = HasUnits-section method (suc index) most in
    let head = behind-head 4 method power filled units.1 (omega arith) under in
    let pos : 0 < lead = held.some (omega arith) in
    let section : lead < 10 ^ 4 = grind (arith, nat_tests, small, most, (limits method).2) in
    let higher : (rank_at method power == 1) ≡ false = agree_below_at (is_ten method) (λ n. false)
    (sections_within method) index (limits method).1 (omega (arith, most)) in
    let some : 0 < number = omega (arith, pos, held.split, div-le_self number (10 ^ power)) in
    let whole : number ≡ lead * 10 ^ power + below =
    rw held.split (sym (div-add-mod' number (10 ^ power))) in
    let parts : part method number
    ≡ part Low lead ++ (unit (rank_at method power) ∷ (head.0 ++ part method below)) =
    ap (λ n. part method n) whole ∙ rw (head.1, part-alike method lead small)
    at (lead-more 4 method power lead below filled units.0 pos section under fills) in
    rw (head.1, ← part-some Low lead pos)
    (ap short_spelling (sym (part-some method number some) ∙ parts)
    ∙ short_spelling-over (part Low lead) (head.0 ++ part method below) (rank_at method power)
    higher)

-- there is space for one more mark before each section and the units after it
pub room-more : (method : ChineseCountMethod) (number count index lead filled : ℕ)
    {sections : List ℕ} → HoldsSections number sections count lead
    → count ≤ sections_within method → lead < above_limit method → index < count
    → 0 < digits_at 4 number (4 * index) → filled ≤ 4 * index
    → Fills filled (number % 10 ^ (4 * index))
    → length (section_marks (digits_at 4 number (4 * index)))
    + (length (units_behind method (4 * index) filled)
    + length (part method (number % 10 ^ (4 * index)))) + 1
    ≤ length (spelling method number)
room-more method number count index lead filled held most small less some under fills =
    let units = units_behind method (4 * index) filled in
    let below = part method (number % 10 ^ (4 * index)) in
    let power = 4 * count in
    let top = Filled number power in
    let steps : 4 * index + 4 + (power - (4 * index + 4)) ≡ power = omega (arith, less) in
    let grows : length (part method (number % 10 ^ (4 * index + 4)))
    ≤ length (part method (number % 10 ^ power)) =
    rw steps at (parts-grow method number (4 * index + 4) (power - (4 * index + 4))
    (grind (arith, nat_tests, steps, most, (limits method).0))) in
    let over = units_behind method power (filled_of number power) in
    let head = behind-head 4 method power (filled_of number power)
    (HasUnits-section method count most).1 (omega (arith, less)) top.0 in
    omega (
      arith,
      grows,
      ap length (spelling-above method number count lead (filled_of number power) held most small
          top.1 top.0),
      length-append (spelling Low lead) (over ++ part method (number % 10 ^ power)),
      length-append over (part method (number % 10 ^ power)),
      ap length head.1,
      ap length (section-more method number index filled (omega (arith, most, less)) some under
          fills),
      length-append (section_marks (digits_at 4 number (4 * index))) (units ++ below),
      length-append units below,
    )

-- the spelling after all sections are written, and its length
pub spelling-end : (method : ChineseCountMethod) (number count index lead filled : ℕ)
    {sections : List ℕ} → HoldsSections number sections count lead
    → count ≤ sections_within method → lead < above_limit method → index ≤ count → count ≤ index
    → Fills filled (number % 10 ^ (4 * index)) → filled ≤ 4 * index
    → (spelling method number ≡ spelling Low lead
    ++ (units_behind method (4 * count) filled ++ part method (number % 10 ^ (4 * index))))
    × (length (spelling method number) ≡ length (spelling Low lead)
    + (length (units_behind method (4 * count) filled)
    + length (part method (number % 10 ^ (4 * index)))))
spelling-end method number count index lead filled held most small reached past fills under =
    let end : index ≡ count = omega (arith, reached, past) in
    let whole = spelling-above method number count lead filled held most small (rw end at fills)
    (rw end at under) in
    rw end (whole, simp length-append at (ap length whole))
