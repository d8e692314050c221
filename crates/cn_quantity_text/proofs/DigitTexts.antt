-- Digits that are written side by side, such as those after a point, and how they are read.
use Rattle.std.proofs.Common.{◌≡◌, ℕ, zero, suc, ◌+◌, ◌*◌, ◌/◌, ◌%◌, ◌^◌, ◌<◌, Bool, true, false, ◌==◌, nat_lt, is_none, is_some, List, [], ◌∷◌, ◌++◌, length, map, filter_map, Option, Some, None, refl, sym, ap, ◌∙◌, arith, if◌then◌else◌, append-nil}
use Rattle.std.specs.List.{cons_option, list_all}
use Rattle.std.specs.Option.{option_map_or}
use Rattle.std.proofs.lemmas.Bool.Decides.{nat_tests}
use Rattle.std.proofs.lemmas.List.Elements.{filter_map-append}
use Rattle.std.proofs.lemmas.List.Sums.{fold-append}
use Rattle.std.proofs.Math.Nat.{div-div-eq-div-mul, pow-suc, div-add-mod'}
use Rattle.cn_core.specs.declared.method.ChineseCountMethod.{ChineseCountMethod}
use Rattle.cn_core.specs.Characters.{rank_of}
use Rattle.cn_core.specs.Digits.{value_after}
use Rattle.cn_core.proofs.Fronts.{and-left, and-right, both}
use Rattle.cn_quantity_text.specs.Digits.{last_digits}
use Rattle.cn_quantity.specs.declared.characters.DigitKind.{DigitKind}
use Rattle.cn_quantity.specs.Characters.{digit_by}
use Rattle.cn_quantity.specs.Digits.{after_digits, begins_with_digit, is_digit, leading_digits, read_on}
use Rattle.cn_quantity.specs.Units.{times_units}
use Rattle.cn_quantity.proofs.Growing.{times-digit}
use Rattle.cn_spell.proofs.Printed.{each_below, each_below-at, none_from_is_none}

-- the text has only digits of this kind
abbrev pub are_digits : DigitKind → List ℕ → Bool
are_digits kind text = list_all (is_digit kind) text

-- a property of each digit
pub digits-all : (kind : DigitKind) (test : ℕ → Bool)
    → ((c value : ℕ) → digit_by kind c ≡ Some value → test c ≡ true)
    → (text : List ℕ) → are_digits kind text ≡ true → list_all test text ≡ true
digits-all kind test one [] h = refl
digits-all kind test one (c ∷ rest) h =
    both (test c) (list_all test rest)
    (by (digit_by kind c) refl (and-left (is_digit kind c) (are_digits kind rest) h))
    (digits-all kind test one rest (and-right (is_digit kind c) (are_digits kind rest) h)) where
      by : (d : Option ℕ) → digit_by kind c ≡ d → is_some d ≡ true → test c ≡ true
      by None is some = cc
      by (Some value) is some = one c value is

none-lead : (kind : DigitKind) (text : List ℕ) → begins_with_digit kind text ≡ false
    → (leading_digits kind text ≡ 0) × (after_digits kind text ≡ text)
none-lead kind [] h = (refl, refl)
none-lead kind (c ∷ rest) h = (rw h, rw h)

-- the text after digits
pub digits-lead : (kind : DigitKind) (front rest : List ℕ) → are_digits kind front ≡ true
    → begins_with_digit kind rest ≡ false
    → (leading_digits kind (front ++ rest) ≡ length front)
    × (after_digits kind (front ++ rest) ≡ rest)
digits-lead kind [] rest all none = none-lead kind rest none
digits-lead kind (c ∷ front) rest all none =
    let one = and-left (is_digit kind c) (are_digits kind front) all in
    let more = digits-lead kind front rest (and-right (is_digit kind c) (are_digits kind front) all)
    none in (
      ap (λ b. if b then suc (leading_digits kind (front ++ rest)) else 0) one ∙ ap suc more.0,
      ap (λ b. if b then after_digits kind (front ++ rest) else c ∷ front ++ rest) one ∙ more.1,
    )

-- a text of digits alone
pub digits-alone : (kind : DigitKind) (text : List ℕ) → are_digits kind text ≡ true
    → (leading_digits kind text ≡ length text) × (after_digits kind text ≡ [])
digits-alone kind text all = rw append-nil at (digits-lead kind text [] all refl)

pub read_on-append : (kind : DigitKind) (number : ℕ) (front rest : List ℕ)
    → read_on kind number (front ++ rest) ≡ read_on kind (read_on kind number front) rest
read_on-append kind number front rest =
    ap (value_after number) (filter_map-append (digit_by kind) front rest)
    ∙ fold-append (λ number digit. number * 10 + digit) number (filter_map (digit_by kind) front)
    (filter_map (digit_by kind) rest)

-- the character of each digit is read as that digit
abbrev pub WritesDigits : DigitKind → (ℕ → ℕ) → Type 0
WritesDigits kind character =
    (value : ℕ) → value < 10 → digit_by kind (character value) ≡ Some value

-- it is enough to check a table of the ten digits
pub WritesDigits-each : (kind : DigitKind) (character : ℕ → ℕ)
    → each_below (λ value. option_map_or (λ read. read == value)
    (digit_by kind (character value)) false) 10 ≡ true → WritesDigits kind character
WritesDigits-each kind character all value low =
    by (digit_by kind (character value))
    (each_below-at (λ value. option_map_or (λ read. read == value)
    (digit_by kind (character value)) false) 10 value all low) where
      by : (d : Option ℕ) → option_map_or (λ read. read == value) d false ≡ true
          → d ≡ Some value
      by None h = cc
      by (Some read) h = let same : read ≡ value = grind (arith, nat_tests, h) in ap Some same

pub read-digit : (kind : DigitKind) (character : ℕ → ℕ) (number value : ℕ) (rest : List ℕ)
    → WritesDigits kind character → value < 10
    → read_on kind number (character value ∷ rest) ≡ read_on kind (number * 10 + value) rest
read-digit kind character number value rest writes low =
    ap (λ d. value_after number (cons_option d (filter_map (digit_by kind) rest))) (writes value low)

last-low : (number count : ℕ) → number / 10 ^ count % 10 < 10
last-low number count = omega arith

-- the last digits of a number
pub last-digits : (kind : DigitKind) (character : ℕ → ℕ) (count number : ℕ)
    → WritesDigits kind character
    → are_digits kind (map character (last_digits count number)) ≡ true
last-digits kind character zero number writes = refl
last-digits kind character (suc count) number writes =
    both (is_digit kind (character (number / 10 ^ count % 10))) _
    (ap is_some (writes (number / 10 ^ count % 10) (last-low number count)))
    (last-digits kind character count number writes)

pub last-count : (character : ℕ → ℕ) (count number : ℕ)
    → length (map character (last_digits count number)) ≡ count
last-count character zero number = refl
last-count character (suc count) number = ap suc (last-count character count number)

-- appended to other digits, they give the number
pub last-read : (kind : DigitKind) (character : ℕ → ℕ) (count number : ℕ)
    → WritesDigits kind character
    → read_on kind (number / 10 ^ count) (map character (last_digits count number)) ≡ number
last-read kind character zero number writes = omega arith
last-read kind character (suc count) number writes =
    let size = 10 ^ count in
    let tens : number / 10 ^ suc count ≡ number / size / 10 =
    ap (λ n. number / n) (pow-suc 10 count) ∙ sym (div-div-eq-div-mul number size 10) in
    let sum : number / 10 ^ suc count * 10 + number / size % 10 ≡ number / size =
    ap (λ n. n * 10 + number / size % 10) tens ∙ div-add-mod' (number / size) 10 in
    read-digit kind character (number / 10 ^ suc count) (number / size % 10)
    (map character (last_digits count number)) writes (last-low number count)
    ∙ ap (λ n. read_on kind n (map character (last_digits count number))) sum
    ∙ last-read kind character count number writes

-- no character is a unit
abbrev pub has_no_units : List ℕ → Bool
has_no_units text = list_all (λ c. is_none (rank_of c)) text

-- without units a number is not multiplied
pub no-factors : (method : ChineseCountMethod) (number : ℕ) (text : List ℕ)
    → has_no_units text ≡ true → number < 2 ^ 128 → times_units method number text ≡ Some number
no-factors method number [] none small =
    let test : nat_lt (number * 1) (2 ^ 128) ≡ true = grind (arith, nat_tests, small) in
    rw test (ap Some (omega arith))
no-factors method number (c ∷ rest) none small =
    times-digit method number c rest
    (none_from_is_none (rank_of c) (and-left (is_none (rank_of c)) (has_no_units rest) none))
    ∙ no-factors method number rest
    (and-right (is_none (rank_of c)) (has_no_units rest) none) small
