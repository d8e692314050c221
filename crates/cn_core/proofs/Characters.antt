-- How many characters write digits and units, and the index of each unit.
use Rattle.std.proofs.Common.{◌≡◌, ◌≤◌, ◌<◌, ℕ, zero, suc, Bool, true, ◌&&◌, nat_le, nat_lt, List, [], ◌∷◌, slice_index, length, refl, arith}
use Rattle.std.specs.List.{list_all}
use Rattle.std.proofs.lemmas.Bool.Decides.{nat_tests}
use Rattle.cn_core.proofs.Fronts.{and-left, and-right}
use denote.Enum.Declared.{tag_of}
use Rattle.cn_core.specs.contracts.unit.Unit.{the_type}
use Rattle.cn_core.specs.declared.script.ChineseVariant.{ChineseVariant}
use Rattle.cn_core.specs.declared.script.ChineseVariant.TheVariants.{Traditional, Simple}
use Rattle.cn_core.specs.declared.case.ChineseCase.{ChineseCase}
use Rattle.cn_core.specs.declared.case.ChineseCase.TheVariants.{Upper, Lower}
use Rattle.cn_core.specs.declared.unit.Unit.{Unit as NumeralUnit}
use Rattle.cn_core.specs.declared.unit.Unit.TheVariants.{Ge, Shi, Bai, Qian, Wan, Yi, Zhao, Jing, Gai, Zi, Rang, Gou, Jian, Zheng, Zai, Ji}
use Rattle.cn_core.specs.Characters.{printed_digits, printed_units, rank, digit_char, unit_char}

pub length-digits : (variant : ChineseVariant) (case : ChineseCase) → length (printed_digits variant case) ≡ 10
length-digits variant Lower = refl
length-digits Traditional Upper = refl
length-digits Simple Upper = refl

pub length-units : (variant : ChineseVariant) (case : ChineseCase) → length (printed_units variant case) ≡ 16
length-units Traditional Lower = refl
length-units Traditional Upper = refl
length-units Simple Lower = refl
length-units Simple Upper = refl

pub rank-low : (unit : NumeralUnit) → rank unit < 16
rank-low = elim [
  | Ge ↦ omega arith
  | Shi ↦ omega arith
  | Bai ↦ omega arith
  | Qian ↦ omega arith
  | Wan ↦ omega arith
  | Yi ↦ omega arith
  | Zhao ↦ omega arith
  | Jing ↦ omega arith
  | Gai ↦
      omega arith
  | Zi ↦ omega arith
  | Rang ↦ omega arith
  | Gou ↦ omega arith
  | Jian ↦
      omega arith
  | Zheng ↦ omega arith
  | Zai ↦ omega arith
  | Ji ↦ omega arith
]

-- the number that the compiled code uses for a unit is its rank
pub tag_rank : (unit : NumeralUnit) → tag_of the_type unit ≡ rank unit
tag_rank = elim [
  | Ge ↦ refl
  | Shi ↦ refl
  | Bai ↦ refl
  | Qian ↦ refl
  | Wan ↦ refl
  | Yi ↦ refl
  | Zhao ↦ refl
  | Jing ↦ refl
  | Gai ↦ refl
  | Zi ↦ refl
  | Rang ↦ refl
  | Gou ↦ refl
  | Jian ↦ refl
  | Zheng ↦ refl
  | Zai ↦ refl
  | Ji ↦ refl
]

-- whether the UTF-8 of a character is three bytes long: it is from 0x800 up and below the
-- surrogates
abbrev pub takes_three : ℕ → Bool
takes_three c = nat_le 0x800 c && nat_lt c 0xD800

-- if each element passes a test, the element at each index passes it
passes-at : (test : ℕ → Bool) (xs : List ℕ) (k : ℕ) → list_all test xs ≡ true → k < length xs
    → test (slice_index xs k) ≡ true
passes-at test [] k h less = absurd (omega (arith, less))
passes-at test (x ∷ xs) zero h less = and-left (test x) _ h
passes-at test (x ∷ xs) (suc k) h less =
    passes-at test xs k (and-right (test x) _ h) (omega (arith, less))

three-digits : (variant : ChineseVariant) (case : ChineseCase) → list_all takes_three (printed_digits variant case) ≡ true
three-digits variant Lower = refl
three-digits Traditional Upper = refl
three-digits Simple Upper = refl

three-units : (variant : ChineseVariant) (case : ChineseCase) → list_all takes_three (printed_units variant case) ≡ true
three-units Traditional Lower = refl
three-units Traditional Upper = refl
three-units Simple Lower = refl
three-units Simple Upper = refl

pub three-digit : (variant : ChineseVariant) (case : ChineseCase) (digit : ℕ) → digit < 10 → takes_three (digit_char variant case digit) ≡ true
unfolding digit_char
three-digit variant case digit h =
    passes-at takes_three (printed_digits variant case) digit (three-digits variant case) (omega (arith, h, length-digits variant case))

pub three-unit : (variant : ChineseVariant) (case : ChineseCase) (unit : NumeralUnit) → takes_three (unit_char variant case (rank unit)) ≡ true
unfolding unit_char
three-unit variant case unit =
    passes-at takes_three (printed_units variant case) (rank unit) (three-units variant case) (omega (arith, rank-low unit, length-units variant case))

in-three : (c : ℕ) → takes_three c ≡ true → (2048 ≤ c) × (c < 55296)
in-three c h =
    let low : nat_le 0x800 c ≡ true = and-left (nat_le 0x800 c) _ h in
    let high : nat_lt c 0xD800 ≡ true = and-right (nat_le 0x800 c) _ h in
    (grind (arith, nat_tests, low), grind (arith, nat_tests, high))

pub digit_three : (variant : ChineseVariant) (case : ChineseCase) (digit : ℕ) → digit < 10 → (2048 ≤ slice_index (printed_digits variant case) digit) × (slice_index (printed_digits variant case) digit < 55296)
unfolding digit_char
digit_three variant case digit h = in-three _ (three-digit variant case digit h)

pub unit_three : (variant : ChineseVariant) (case : ChineseCase) (unit : NumeralUnit) → (2048 ≤ slice_index (printed_units variant case) (rank unit)) × (slice_index (printed_units variant case) (rank unit) < 55296)
unfolding unit_char
unit_three variant case unit = in-three _ (three-unit variant case unit)
