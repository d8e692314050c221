-- The digits of codes.
use Rattle.std.specs.Prelude.{ℕ, ◌+◌, ◌*◌, ◌==◌, nat_le, Bool, true, false, ◌&&◌, List, [], ◌∷◌, codes, Option, Some, unwrap_or, if◌then◌else◌}
use Rattle.std.specs.Char.{char_set_contains}
use Rattle.std.specs.List.{list_any}
use Rattle.cn_core.specs.Characters.{digit_of}
use Rattle.cn_core.specs.FigureCharacters.{figure_of}
use Rattle.cn_replace.specs.Pieces.{begins}

-- the character is a Chinese digit of a code
unfoldable pub is_chinese : ℕ → Bool
is_chinese c = char_set_contains (codes "零〇一二三四五六七八九幺") c

-- the character is 幺, which is said for 1
unfoldable pub is_yao : ℕ → Bool
is_yao c = char_set_contains (codes "幺") c

-- the value of a digit of a code, of either kind
abbrev pub code_digit : ℕ → Option ℕ
code_digit c =
    if is_yao c then Some 1 else (if is_chinese c then digit_of c else figure_of c)

-- the value of a character that is such a digit, and 0 for any other
abbrev pub value_of : ℕ → ℕ
value_of c = unwrap_or (code_digit c) 0

-- the number of digits, given that of those before them
abbrev pub number_from : ℕ → List ℕ → ℕ
number_from value [] = value
number_from value (c ∷ digits) = number_from (10 * value + value_of c) digits

abbrev pub number_of : List ℕ → ℕ
number_of digits = number_from 0 digits

-- a run begins with the digits of a number, which is given in ASCII
abbrev pub begins_number : List ℕ → List ℕ → Bool
begins_number [] run = true
begins_number (c ∷ number) [] = false
begins_number (c ∷ number) (d ∷ run) = value_of c == value_of d && begins_number number run

-- a run begins with one of these numbers
abbrev pub begins_any_number : List (List ℕ) → List ℕ → Bool
begins_any_number numbers run = list_any (λ number. begins_number number run) numbers

-- the first digit is a zero
abbrev pub begins_zero : List ℕ → Bool
begins_zero run = begins (λ c. value_of c == 0) run

-- each digit is at least the one before it, the first at least this one: 一二三四五六七
abbrev pub rise_from : ℕ → List ℕ → Bool
rise_from least [] = true
rise_from least (c ∷ digits) = nat_le least (value_of c) && rise_from (value_of c) digits
