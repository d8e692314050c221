-- The sum of a form is its amount.
use Rattle.std.proofs.Common.{◌≡◌, ℕ, zero, suc, ◌+◌, ◌*◌, Bool, true, false, not, ◌||◌, List, [], ◌∷◌, ◌++◌, refl, sym, ap, ap₂, ◌∙◌, append-nil, if◌then◌else◌, arith}
use Rattle.cn_amount.specs.declared.before.Before.{Before}
use Rattle.cn_amount.specs.declared.before.Before.TheVariants.{Nothing, Gap, Filled}
use Rattle.cn_amount.specs.declared.capital.Capital.{Capital}
use Rattle.cn_amount.specs.declared.capital.Capital.TheVariants.{Shi, Bai, Qian, Wan, Yi, Jiao, Fen, Ren, Min, Bi}
use Rattle.cn_amount.specs.declared.places.Section.{Section}
use Rattle.cn_amount.specs.declared.places.Places.{Places}
use Rattle.cn_amount.specs.declared.sum.Sum.{Sum}
use Rattle.cn_amount.specs.Form.{Choices, is_empty, is_written, are_zero, after_digit, after_places, after_section, after_unit, yuan_unit, after_yuan_unit, behind, place_text, places_text, closing, places_in, small_places, section_text, small_text, unit_text, from_yuan, from_wan, from_yi, from_top, amount_form}
use Rattle.cn_amount.specs.Places.{section_value, amount_value}
use Rattle.cn_amount.specs.Working.Steps.{add, sum_of, no_sum}

abbrev sums : ℕ → ℕ → ℕ → Sum
sums closed section digit = record { closed = closed; section = section; digit = digit }

pub sum-append : (sum : Sum) (start back : List Capital)
    → sum_of sum (start ++ back) ≡ sum_of (sum_of sum start) back
sum-append sum [] back = refl
sum-append sum (capital ∷ start) back = sum-append (add sum capital) start back

-- the sum of two pieces, one after the other
joined-sum : (first second third : Sum) (start back : List Capital) → sum_of first start ≡ second
    → sum_of second back ≡ third → sum_of first (start ++ back) ≡ third
joined-sum first second third start back a b =
    sum-append first start back ∙ ap (λ sum. sum_of sum back) a ∙ b

-- a place of a section, given the worth of its unit
counted : (unit : Capital) (worth : ℕ)
    → ((closed section digit : ℕ)
    → add (sums closed section digit) unit ≡ sums closed (section + worth * digit) 0)
    → (before : Before) (closed section digit : ℕ)
    → sum_of (sums closed section 0) (place_text before digit (unit ∷ []))
    ≡ sums closed (section + worth * digit) 0
counted unit worth is before closed section zero =
    let e : section ≡ section + worth * 0 = omega arith in ap (λ n. sums closed n 0) e
counted unit worth is Nothing closed section (suc n) = is closed section (suc n)
counted unit worth is Gap closed section (suc n) = is closed section (suc n)
counted unit worth is Filled closed section (suc n) = is closed section (suc n)

ones : (before : Before) (closed section digit : ℕ)
    → sum_of (sums closed section 0) (place_text before digit []) ≡ sums closed section digit
ones before closed section zero = refl
ones Nothing closed section (suc n) = refl
ones Gap closed section (suc n) = refl
ones Filled closed section (suc n) = refl

jiaos : (before : Before) (fen digit : ℕ)
    → sum_of (sums fen 0 0) (place_text before digit (Jiao ∷ [])) ≡ sums (fen + 10 * digit) 0 0
jiaos before fen zero = let e : fen ≡ fen + 10 * 0 = omega arith in ap (λ n. sums n 0 0) e
jiaos Nothing fen (suc n) = refl
jiaos Gap fen (suc n) = refl
jiaos Filled fen (suc n) = refl

fens : (before : Before) (fen digit : ℕ)
    → sum_of (sums fen 0 0) (place_text before digit (Fen ∷ [])) ≡ sums (fen + digit) 0 0
fens before fen zero = let e : fen ≡ fen + 0 = omega arith in ap (λ n. sums n 0 0) e
fens Nothing fen (suc n) = refl
fens Gap fen (suc n) = refl
fens Filled fen (suc n) = refl

closings : (sum : Sum) (jiao fen : ℕ) (closes : Bool) → sum_of sum (closing jiao fen closes) ≡ sum
closings sum jiao (suc n) closes = refl
closings sum zero zero closes = refl
closings sum (suc n) zero true = refl
closings sum (suc n) zero false = refl

small-sum : (before : Before) (start jiao fen : ℕ) (closes : Bool)
    → sum_of (sums start 0 0) (small_text before jiao fen closes)
    ≡ sums (start + 10 * jiao + fen) 0 0
small-sum before start jiao fen closes =
    let after = after_digit before jiao in
    let all = sums (start + 10 * jiao + fen) 0 0 in
    joined-sum (sums start 0 0) all all (places_text before (small_places jiao fen))
    (closing jiao fen closes)
    (joined-sum (sums start 0 0) (sums (start + 10 * jiao) 0 0) all
    (place_text before jiao (Jiao ∷ [])) (place_text after fen (Fen ∷ []) ++ [])
    (jiaos before start jiao)
    (ap (sum_of (sums (start + 10 * jiao) 0 0)) (append-nil (place_text after fen (Fen ∷ [])))
    ∙ fens after (start + 10 * jiao) fen))
    (closings all jiao fen closes)

-- the sum of a section, whose last digit has no unit
abbrev counted_digits : Section → ℕ
counted_digits s = 0 + 1000 * s.thousands + 100 * s.hundreds + 10 * s.tens

section-sum : (before : Before) (closed : ℕ) (s : Section)
    → sum_of (sums closed 0 0) (section_text before s) ≡ sums closed (counted_digits s) s.ones
section-sum before closed s =
    let a = after_digit before s.thousands in
    let b = after_digit a s.hundreds in
    let c = after_digit b s.tens in
    let x = 0 + 1000 * s.thousands in
    let y = x + 100 * s.hundreds in
    let z = y + 10 * s.tens in
    let first = place_text before s.thousands (Qian ∷ []) in
    let second = place_text a s.hundreds (Bai ∷ []) in
    let third = place_text b s.tens (Shi ∷ []) in
    let last = place_text c s.ones [] in
    joined-sum (sums closed 0 0) (sums closed x 0) (sums closed z s.ones) first
    (second ++ (third ++ (last ++ [])))
    (counted Qian 1000 (λ m n d. refl) before closed 0 s.thousands)
    (joined-sum (sums closed x 0) (sums closed y 0) (sums closed z s.ones) second
    (third ++ (last ++ [])) (counted Bai 100 (λ m n d. refl) a closed x s.hundreds)
    (joined-sum (sums closed y 0) (sums closed z 0) (sums closed z s.ones) third (last ++ [])
    (counted Shi 10 (λ m n d. refl) b closed y s.tens)
    (ap (sum_of (sums closed z 0)) (append-nil last) ∙ ones c closed z s.ones)))

-- the digits of an empty section count nothing
empty-zero : (a b c d : ℕ) (s : Section)
    → s ≡ record { thousands = a; hundreds = b; tens = c; ones = d } → is_empty s ≡ true
    → (counted_digits s ≡ 0) × (s.ones ≡ 0)
empty-zero zero zero zero zero s is e =
    (ap counted_digits is, ap (λ (s : Section). s.ones) is)
empty-zero (suc a) b c d s is e = let no = ap is_empty is in absurd (cc)
empty-zero zero (suc b) c d s is e = let no = ap is_empty is in absurd (cc)
empty-zero zero zero (suc c) d s is e = let no = ap is_empty is in absurd (cc)
empty-zero zero zero zero (suc d) s is e = let no = ap is_empty is in absurd (cc)

zero-section : (s : Section) → is_empty s ≡ true → (counted_digits s ≡ 0) × (s.ones ≡ 0)
zero-section s e = empty-zero s.thousands s.hundreds s.tens s.ones s refl e

-- if nothing is written, nothing counts
abbrev Counts : Before → ℕ → Type 0
Counts before yuan = is_written before ≡ false → yuan ≡ 0

unwritten : (before : Before) (places : List (ℕ × List Capital))
    → is_written (after_places before places) ≡ false
    → (is_written before ≡ false) × (are_zero places ≡ true)
unwritten before [] h = (h, refl)
unwritten before ((zero, unit) ∷ places) h =
    by before (unwritten (after_digit before 0) places h) where
      by : (before : Before)
          → (is_written (after_digit before 0) ≡ false) × (are_zero places ≡ true)
          → (is_written before ≡ false) × (are_zero places ≡ true)
      by Nothing h = h
      by Gap h = h
      by Filled h = absurd (cc)
unwritten before ((suc n, unit) ∷ places) h =
    let none = unwritten Filled places h in absurd (cc)

nothing-counted : (before : Before) (yuan : ℕ) (s : Section) → Counts before yuan
    → is_written (after_section before s) ≡ false
    → (yuan ≡ 0) × (counted_digits s ≡ 0) × (s.ones ≡ 0)
nothing-counted before yuan s counts h =
    let none = unwritten before (places_in s) h in
    let zeros = zero-section s none.1 in
    (counts none.0, zeros.0, zeros.1)

unit-written : (counts keeps : Bool) (after : Before)
    → is_written (after_unit counts keeps after) ≡ is_written after
unit-written false keeps after = refl
unit-written true true after = refl
unit-written true false Nothing = refl
unit-written true false Gap = refl
unit-written true false Filled = refl

-- the text after a section
section-then : (before : Before) (yuan : ℕ) (s : Section) (unit rest : List Capital)
    (middle total : Sum) → sum_of (sums yuan (counted_digits s) s.ones) unit ≡ middle
    → sum_of middle rest ≡ total
    → sum_of (sums yuan 0 0) ((section_text before s ++ unit) ++ rest) ≡ total
section-then before yuan s unit rest middle total a b =
    joined-sum (sums yuan 0 0) middle total (section_text before s ++ unit) rest
    (joined-sum (sums yuan 0 0) (sums yuan (counted_digits s) s.ones) middle
    (section_text before s) unit (section-sum before yuan s) a) b

wan-sum : (s : Section) (yuan : ℕ)
    → sum_of (sums yuan (counted_digits s) s.ones) (unit_text (not (is_empty s)) Wan)
    ≡ sums (yuan + 10000 * section_value s) 0 0
wan-sum s yuan = by (is_empty s) refl where
  by : (b : Bool) → is_empty s ≡ b
      → sum_of (sums yuan (counted_digits s) s.ones) (unit_text (not b) Wan)
      ≡ sums (yuan + 10000 * section_value s) 0 0
  by true e =
      let none = zero-section s e in
      let n : yuan ≡ yuan + 10000 * section_value s = omega (arith, none.0, none.1) in
      ap₂ (λ (section digit : ℕ). sums yuan section digit) none.0 none.1
      ∙ ap (λ n. sums n 0 0) n
  by false e =
      let n : yuan + 10000 * (counted_digits s + s.ones) ≡ yuan + 10000 * section_value s =
      omega arith in ap (λ n. sums n 0 0) n

yi-sum : (after : Before) (s : Section) (yuan : ℕ)
    → (is_written after ≡ false → (yuan ≡ 0) × (counted_digits s ≡ 0) × (s.ones ≡ 0))
    → sum_of (sums yuan (counted_digits s) s.ones) (unit_text (is_written after) Yi)
    ≡ sums (100000000 * (yuan + section_value s)) 0 0
yi-sum after s yuan none = by (is_written after) refl where
  by : (b : Bool) → is_written after ≡ b
      → sum_of (sums yuan (counted_digits s) s.ones) (unit_text b Yi)
      ≡ sums (100000000 * (yuan + section_value s)) 0 0
  by true e =
      let n : 100000000 * (yuan + counted_digits s + s.ones)
      ≡ 100000000 * (yuan + section_value s) = omega arith in ap (λ n. sums n 0 0) n
  by false e =
      let zeros = none e in
      let n : yuan ≡ 100000000 * (yuan + section_value s) =
      omega (arith, zeros.0, zeros.1, zeros.2) in
      ap₂ (λ (section digit : ℕ). sums yuan section digit) zeros.1 zeros.2
      ∙ ap (λ n. sums n 0 0) n

yuan-sum : (after : Before) (s : Section) (yuan : ℕ) (named keeps closes : Bool) (jiao fen : ℕ)
    → (is_written after ≡ false → (yuan ≡ 0) × (counted_digits s ≡ 0) × (s.ones ≡ 0))
    → sum_of (sums yuan (counted_digits s) s.ones) (yuan_unit after named
    ++ small_text (after_yuan_unit keeps after named) jiao fen closes)
    ≡ sums (100 * (yuan + section_value s) + 10 * jiao + fen) 0 0
yuan-sum after s yuan named keeps closes jiao fen none = by after named none where
  total : Sum
  total = sums (100 * (yuan + section_value s) + 10 * jiao + fen) 0 0

  behind-yuan : (before : Before)
      → sum_of (sums (100 * (yuan + counted_digits s + s.ones)) 0 0)
      (small_text before jiao fen closes) ≡ total
  behind-yuan before =
      let n : 100 * (yuan + counted_digits s + s.ones) + 10 * jiao + fen
      ≡ 100 * (yuan + section_value s) + 10 * jiao + fen = omega arith in
      small-sum before (100 * (yuan + counted_digits s + s.ones)) jiao fen closes
      ∙ ap (λ n. sums n 0 0) n

  by : (after : Before) (named : Bool)
      → (is_written after ≡ false → (yuan ≡ 0) × (counted_digits s ≡ 0) × (s.ones ≡ 0))
      → sum_of (sums yuan (counted_digits s) s.ones) (yuan_unit after named
      ++ small_text (after_yuan_unit keeps after named) jiao fen closes) ≡ total
  by Nothing true none = behind-yuan (behind keeps Gap)
  by Nothing false none =
      let zeros = none refl in
      let n : 0 + 10 * jiao + fen ≡ 100 * (yuan + section_value s) + 10 * jiao + fen =
      omega (arith, zeros.0, zeros.1, zeros.2) in
      ap (λ yuan. sum_of (sums yuan (counted_digits s) s.ones)
      (small_text Nothing jiao fen closes)) zeros.0
      ∙ ap₂ (λ (section digit : ℕ). sum_of (sums 0 section digit)
      (small_text Nothing jiao fen closes)) zeros.1 zeros.2
      ∙ small-sum Nothing 0 jiao fen closes ∙ ap (λ n. sums n 0 0) n
  by Gap named none = behind-yuan (behind keeps Gap)
  by Filled named none = behind-yuan Filled

-- the texts from the section of the yuan on
from-yuan : (choices : Choices) (before : Before) (yuan : ℕ) (p : Places) → Counts before yuan
    → sum_of (sums yuan 0 0) (from_yuan choices before p)
    ≡ sums (100 * (yuan + section_value p.yuan) + 10 * p.jiao + p.fen) 0 0
from-yuan choices before yuan p counts =
    joined-sum (sums yuan 0 0) (sums yuan (counted_digits p.yuan) p.yuan.ones) _
    (section_text before p.yuan) _ (section-sum before yuan p.yuan)
    (yuan-sum (after_section before p.yuan) p.yuan yuan
    (choices.no_yuan || are_zero (small_places p.jiao p.fen)) choices.behind_yuan
    choices.behind_jiao p.jiao p.fen (nothing-counted before yuan p.yuan counts))

from-wan : (choices : Choices) (before : Before) (yuan : ℕ) (p : Places) → Counts before yuan
    → sum_of (sums yuan 0 0) (from_wan choices before p)
    ≡ sums (100 * (yuan + 10000 * section_value p.wan + section_value p.yuan) + 10 * p.jiao
    + p.fen) 0 0
from-wan choices before yuan p counts =
    let after = after_section before p.wan in
    let below = after_unit (not (is_empty p.wan)) choices.behind_wan after in
    let more = yuan + 10000 * section_value p.wan in
    section-then before yuan p.wan (unit_text (not (is_empty p.wan)) Wan)
    (from_yuan choices below p) (sums more 0 0) _ (wan-sum p.wan yuan)
    (from-yuan choices below more p (λ e.
    let none = nothing-counted before yuan p.wan counts
    (sym (unit-written (not (is_empty p.wan)) choices.behind_wan after) ∙ e) in
    omega (arith, none.0, none.1, none.2)))

from-yi : (choices : Choices) (before : Before) (yuan : ℕ) (p : Places) → Counts before yuan
    → sum_of (sums yuan 0 0) (from_yi choices before p)
    ≡ sums (100 * (100000000 * (yuan + section_value p.yi) + 10000 * section_value p.wan
    + section_value p.yuan) + 10 * p.jiao + p.fen) 0 0
from-yi choices before yuan p counts =
    let after = after_section before p.yi in
    let below = after_unit (is_written after) choices.behind_yi after in
    let more = 100000000 * (yuan + section_value p.yi) in
    section-then before yuan p.yi (unit_text (is_written after) Yi) (from_wan choices below p)
    (sums more 0 0) _ (yi-sum after p.yi yuan (nothing-counted before yuan p.yi counts))
    (from-wan choices below more p (λ e.
    let none = nothing-counted before yuan p.yi counts
    (sym (unit-written (is_written after) choices.behind_yi after) ∙ e) in
    omega (arith, none.0, none.1, none.2)))

top-sum : (choices : Choices) (p : Places)
    → sum_of no_sum (from_top choices p) ≡ sums (amount_value p) 0 0
top-sum choices p =
    let after = after_section Nothing p.wan_yi in
    let below = after_unit (not (is_empty p.wan_yi)) choices.behind_wan_yi after in
    let more = 0 + 10000 * section_value p.wan_yi in
    let n : 100 * (100000000 * (more + section_value p.yi) + 10000 * section_value p.wan
    + section_value p.yuan) + 10 * p.jiao + p.fen ≡ amount_value p = omega arith in
    section-then Nothing 0 p.wan_yi (unit_text (not (is_empty p.wan_yi)) Wan)
    (from_yi choices below p) (sums more 0 0) _ (wan-sum p.wan_yi 0)
    (from-yi choices below more p (λ e.
    let none = nothing-counted Nothing 0 p.wan_yi (λ e. refl)
    (sym (unit-written (not (is_empty p.wan_yi)) choices.behind_wan_yi after) ∙ e) in
    omega (arith, none.0, none.1, none.2))
    ∙ ap (λ n. sums n 0 0) n)

pub form-sum : (choices : Choices) (p : Places)
    → sum_of no_sum (amount_form choices p) ≡ sums (amount_value p) 0 0
form-sum choices p = by choices.currency where
  by : (b : Bool) → sum_of no_sum ((if b then Ren ∷ Min ∷ Bi ∷ [] else []) ++ from_top choices p)
      ≡ sums (amount_value p) 0 0
  by true = top-sum choices p
  by false = top-sum choices p
