-- No form has more than 39 characters.
use Rattle.std.proofs.Common.{ℕ, zero, suc, ◌+◌, ◌≤◌, Bool, true, false, not, ◌||◌, [], ◌∷◌, ◌++◌, length, if◌then◌else◌, arith, length-append}
use Rattle.cn_amount.specs.declared.before.Before.{Before}
use Rattle.cn_amount.specs.declared.before.Before.TheVariants.{Nothing, Gap, Filled}
use Rattle.cn_amount.specs.declared.capital.Capital.{Capital}
use Rattle.cn_amount.specs.declared.capital.Capital.TheVariants.{Shi, Bai, Qian, Wan, Yi, Jiao, Fen, Ren, Min, Bi}
use Rattle.cn_amount.specs.declared.places.Section.{Section}
use Rattle.cn_amount.specs.declared.places.Places.{Places}
use Rattle.cn_amount.specs.Form.{Choices, is_empty, is_written, are_zero, after_digit, after_section, after_unit, after_wan, after_yi, after_yuan_unit, behind, place_text, small_places, section_text, unit_text, wan_text, yi_text, yuan_unit, closing, small_text, from_yuan, from_wan, from_yi, from_top, amount_form}

-- one character for a 零 that is still to come; if nothing is written, the characters that could
-- have been
abbrev owed : ℕ → Before → ℕ
owed unused Nothing = unused
owed unused Gap = 1
owed unused Filled = 0

owed-place : (unused : ℕ) (before : Before) (digit : ℕ) (unit : Capital)
    → length (place_text before digit (unit ∷ [])) + owed (unused + 2) (after_digit before digit)
    ≤ 2 + owed unused before
owed-place unused Nothing zero unit = omega arith
owed-place unused Gap zero unit = omega arith
owed-place unused Filled zero unit = omega arith
owed-place unused Nothing (suc n) unit = omega arith
owed-place unused Gap (suc n) unit = omega arith
owed-place unused Filled (suc n) unit = omega arith

owed-ones : (unused : ℕ) (before : Before) (digit : ℕ)
    → length (place_text before digit []) + owed (unused + 1) (after_digit before digit)
    ≤ 1 + owed unused before
owed-ones unused Nothing zero = omega arith
owed-ones unused Gap zero = omega arith
owed-ones unused Filled zero = omega arith
owed-ones unused Nothing (suc n) = omega arith
owed-ones unused Gap (suc n) = omega arith
owed-ones unused Filled (suc n) = omega arith

owed-section : (before : Before) (s : Section)
    → length (section_text before s) + owed 7 (after_section before s) ≤ 7 + owed 0 before
owed-section before s =
    let a = after_digit before s.thousands in
    let b = after_digit a s.hundreds in
    let c = after_digit b s.tens in
    let first = place_text before s.thousands (Qian ∷ []) in
    let second = place_text a s.hundreds (Bai ∷ []) in
    let third = place_text b s.tens (Shi ∷ []) in
    let last = place_text c s.ones [] in
    omega (
      arith,
      length-append first (second ++ (third ++ (last ++ []))),
      length-append second (third ++ (last ++ [])),
      length-append third (last ++ []),
      length-append last [],
      owed-place 0 before s.thousands Qian,
      owed-place 2 a s.hundreds Bai,
      owed-place 4 b s.tens Shi,
      owed-ones 6 c s.ones,
    )

owed-more : (unused : ℕ) (before : Before) → owed 0 before ≤ owed unused before
owed-more unused Nothing = omega arith
owed-more unused Gap = omega arith
owed-more unused Filled = omega arith

owed-behind : (keeps : Bool) (before : Before) → owed 0 (behind keeps before) ≤ owed 0 before
owed-behind true before = omega arith
owed-behind false Nothing = omega arith
owed-behind false Gap = omega arith
owed-behind false Filled = omega arith

owed-unit : (counts keeps : Bool) (unit : Capital) (before : Before)
    → length (unit_text counts unit) + owed 0 (after_unit counts keeps before) ≤ 1 + owed 7 before
owed-unit true keeps unit before = omega (arith, owed-behind keeps before, owed-more 7 before)
owed-unit false keeps unit before = omega (arith, owed-more 7 before)

-- a section and its unit
owed-counted : (counts keeps : Bool) (unit : Capital) (before : Before) (s : Section)
    → length (section_text before s ++ unit_text counts unit)
    + owed 0 (after_unit counts keeps (after_section before s)) ≤ 8 + owed 0 before
owed-counted counts keeps unit before s = omega (
  arith,
  length-append (section_text before s) (unit_text counts unit),
  owed-section before s,
  owed-unit counts keeps unit (after_section before s),
)

owed-closing : (before : Before) (jiao fen : ℕ) (closes : Bool)
    → length (place_text before fen (Fen ∷ [])) + length (closing jiao fen closes)
    ≤ 2 + owed 0 before
owed-closing Nothing jiao (suc n) closes = omega arith
owed-closing Gap jiao (suc n) closes = omega arith
owed-closing Filled jiao (suc n) closes = omega arith
owed-closing before zero zero closes = omega arith
owed-closing before (suc n) zero true = omega arith
owed-closing before (suc n) zero false = omega arith

length-small : (before : Before) (jiao fen : ℕ) (closes : Bool)
    → length (small_text before jiao fen closes) ≤ 4 + owed 0 before
length-small before jiao fen closes =
    let after = after_digit before jiao in
    let first = place_text before jiao (Jiao ∷ []) in
    let second = place_text after fen (Fen ∷ []) in
    omega (
      arith,
      length-append (first ++ (second ++ [])) (closing jiao fen closes),
      length-append first (second ++ []),
      length-append second [],
      owed-place 0 before jiao Jiao,
      owed-more 2 after,
      owed-closing after jiao fen closes,
    )

owed-yuan_unit : (keeps : Bool) (after : Before) (named : Bool)
    → length (yuan_unit after named) + owed 0 (after_yuan_unit keeps after named) ≤ 1 + owed 7 after
owed-yuan_unit true Nothing true = omega arith
owed-yuan_unit false Nothing true = omega arith
owed-yuan_unit keeps Nothing false = omega arith
owed-yuan_unit true Gap named = omega arith
owed-yuan_unit false Gap named = omega arith
owed-yuan_unit keeps Filled named = omega arith

length-yuan : (choices : Choices) (before : Before) (p : Places)
    → length (from_yuan choices before p) ≤ 12 + owed 0 before
length-yuan choices before p =
    let after = after_section before p.yuan in
    let named = choices.no_yuan || are_zero (small_places p.jiao p.fen) in
    let unit = yuan_unit after named in
    let below = after_yuan_unit choices.behind_yuan after named in
    let small = small_text below p.jiao p.fen choices.behind_jiao in
    omega (
      arith,
      length-append (section_text before p.yuan) (unit ++ small),
      length-append unit small,
      owed-section before p.yuan,
      owed-yuan_unit choices.behind_yuan after named,
      length-small below p.jiao p.fen choices.behind_jiao,
    )

-- 壹仟壹佰壹拾壹万壹仟壹佰壹拾壹亿壹仟壹佰壹拾壹万壹仟壹佰壹拾壹元壹角壹分
pub length-top : (choices : Choices) (p : Places) → length (from_top choices p) ≤ 36
length-top choices p =
    let a = after_wan choices.behind_wan_yi Nothing p.wan_yi in
    let b = after_yi choices.behind_yi a p.yi in
    let c = after_wan choices.behind_wan b p.wan in
    omega (
      arith,
      length-append (wan_text Nothing p.wan_yi) (from_yi choices a p),
      length-append (yi_text a p.yi) (from_wan choices b p),
      length-append (wan_text b p.wan) (from_yuan choices c p),
      owed-counted (not (is_empty p.wan_yi)) choices.behind_wan_yi Wan Nothing p.wan_yi,
      owed-counted (is_written (after_section a p.yi)) choices.behind_yi Yi a p.yi,
      owed-counted (not (is_empty p.wan)) choices.behind_wan Wan b p.wan,
      length-yuan choices c p,
    )

-- the same after 人民币
pub length-form : (choices : Choices) (p : Places) → length (amount_form choices p) ≤ 39
length-form choices p = by choices.currency where
  by : (b : Bool) → length ((if b then Ren ∷ Min ∷ Bi ∷ [] else []) ++ from_top choices p) ≤ 39
  by true = omega (
    arith,
    length-append (Ren ∷ Min ∷ Bi ∷ []) (from_top choices p),
    length-top choices p,
  )
  by false = omega (arith, length-append {A = Capital} [] (from_top choices p), length-top choices p)
