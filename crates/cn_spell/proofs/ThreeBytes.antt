-- Characters of three bytes, which all printed characters are.
use Rattle.std.proofs.Common.{◌≡◌, ℕ, ◌+◌, ◌*◌, ◌/◌, ◌%◌, ◌<◌, true, false, nat_lt, nat_le, List, [], ◌∷◌, length, slice_index_or, map, encode_utf8_all, refl, arith}
use denote.Enum.Declared.{tag_of}
use Rattle.std.specs.Char.{encode_utf8}
use Rattle.std.specs.List.{list_all}
use Rattle.std.specs.Str.{IsUtf8}
use Rattle.std.proofs.Math.Utf8.{scalar, low_scalar}
use Rattle.std.proofs.lemmas.Bool.Decides.{nat_tests}
use Rattle.std.proofs.lemmas.List.{get_or-map}
use Rattle.std.proofs.lemmas.Str.{IsUtf8-encode}
use Rattle.cn_core.specs.declared.script.ChineseVariant.{ChineseVariant}
use Rattle.cn_core.specs.declared.script.ChineseVariant.TheVariants.{Traditional, Simple}
use Rattle.cn_core.specs.declared.case.ChineseCase.{ChineseCase}
use Rattle.cn_core.specs.declared.unit.Unit.{Unit as NumeralUnit}
use Rattle.cn_core.specs.contracts.unit.Unit.{the_type}
use Rattle.cn_core.specs.Characters.{printed_digits, printed_units, printed_word, rank, digit_char, unit_char, minus_char}
use Rattle.cn_core.proofs.Characters.{length-digits, length-units, rank-low, tag_rank, takes_three}
use Rattle.cn_core.proofs.Fronts.{and-left, and-right}

abbrev pub three : ℕ → List ℕ
three c = (224 + c / 4096) ∷ (128 + c / 64 % 64) ∷ (128 + c % 64) ∷ []

pub encode-three : (c : ℕ) → takes_three c ≡ true → encode_utf8 c ≡ three c
unfolding encode_utf8
encode-three c h =
    let low : nat_le 0x800 c ≡ true = and-left (nat_le 0x800 c) _ h in
    let high : nat_lt c 0xD800 ≡ true = and-right (nat_le 0x800 c) _ h in
    let one : nat_lt c 128 ≡ false = grind (arith, nat_tests, low) in
    let two : nat_lt c 2048 ≡ false = grind (arith, nat_tests, low) in
    let four : nat_lt c 65536 ≡ true = grind (arith, nat_tests, high) in
    rw (one, two, four) refl

pub scalar-three : (c : ℕ) → takes_three c ≡ true → scalar c ≡ true
scalar-three c h =
    let high : nat_lt c 0xD800 ≡ true = and-right (nat_le 0x800 c) _ h in
    low_scalar c (grind (arith, nat_tests, high))

pub IsUtf8-three : (c : ℕ) → takes_three c ≡ true → IsUtf8 (encode_utf8 c)
IsUtf8-three c h = IsUtf8-encode c (scalar-three c h)

-- a text has three bytes for each such character
pub length-encode_all : (cs : List ℕ) → list_all takes_three cs ≡ true
    → length (encode_utf8_all cs) ≡ 3 * length cs
length-encode_all [] h = refl
length-encode_all (c ∷ cs) h =
    let one = encode-three c (and-left (takes_three c) _ h) in
    let rest = length-encode_all cs (and-right (takes_three c) _ h) in
    rw one (omega (arith, rest))

pub three-minus : (variant : ChineseVariant) → takes_three (minus_char variant) ≡ true
unfolding minus_char
three-minus Traditional = refl
three-minus Simple = refl

-- the word at the index of a digit
pub digit_words : (variant : ChineseVariant) (case : ChineseCase) (digit : ℕ) (other : List ℕ) → digit < 10
    → slice_index_or (map printed_word (printed_digits variant case)) digit other ≡ printed_word (digit_char variant case digit)
unfolding digit_char
digit_words variant case digit other h =
    get_or-map printed_word (printed_digits variant case) digit 0 other (omega (arith, h, length-digits variant case))

-- the word at the index of a unit
pub unit_words : (variant : ChineseVariant) (case : ChineseCase) (unit : NumeralUnit) (other : List ℕ)
    → slice_index_or (map printed_word (printed_units variant case)) (tag_of the_type unit) other ≡ printed_word (unit_char variant case (rank unit))
unfolding unit_char
unit_words variant case unit other =
    rw (tag_rank unit) (get_or-map printed_word (printed_units variant case) (rank unit) 0 other (omega (arith, rank-low unit, length-units variant case)))
