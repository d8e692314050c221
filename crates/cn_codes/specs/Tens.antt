-- Versions whose first number is written with 十: 十七点五点一.
use Rattle.std.specs.Prelude.{ℕ, nat_le, Bool, not, ◌&&◌, List, [], ◌∷◌, length, drop, codes, Option, Some, None, if◌then◌else◌}
use Rattle.std.specs.Char.{char_set_contains}
use Rattle.std.specs.Option.{option_and_then}
use Rattle.cn_find.specs.Belongs.{begins_with}
use Rattle.cn_replace.specs.Pieces.{after_leading, begins, leading}
use Rattle.cn_codes.specs.declared.code.CodeKind.TheVariants.{Pointed}
use Rattle.cn_codes.specs.Codes.{Code, ends_numeral, is_pointed_chinese}
use Rattle.cn_codes.specs.Digits.{is_chinese}
use Rattle.cn_codes.specs.Groups.{Group}

unfoldable pub is_one_to_nine : ℕ → Bool
is_one_to_nine c = char_set_contains (codes "一二三四五六七八九") c

abbrev pub is_ten : ℕ → Bool
is_ten c = char_set_contains (codes "十") c

-- no digit or one is directly at the start of a text
abbrev pub has_at_most_one : List ℕ → Bool
has_at_most_one text = nat_le (length (leading is_one_to_nine text)) 1

-- the text from the 十 of a numeral on
abbrev pub from_ten : List ℕ → List ℕ
from_ten text = after_leading is_one_to_nine text

-- a text begins with a numeral from 10 to 99: 十, 十七, 二十, 二十七
abbrev pub begins_tens : List ℕ → Bool
begins_tens text =
    has_at_most_one text && (begins is_ten (from_ten text) && has_at_most_one (drop 1 (from_ten text)))

-- the text after such a numeral
abbrev pub after_tens : List ℕ → List ℕ
after_tens text = after_leading is_one_to_nine (drop 1 (from_ten text))

-- the number of one to four digits after the point with which a text begins
abbrev pub number_at : List ℕ → Option Group
number_at text =
    if begins_with (codes "点點") text
    && (begins is_chinese (drop 1 text) && nat_le (length (leading is_chinese (drop 1 text))) 4)
    then Some (record {
      digits = leading is_chinese (drop 1 text);
      sign = None;
      rest = after_leading is_chinese (drop 1 text);
    }) else None

-- the version that ends with this number
abbrev pub version_with : Group → Option Code
version_with last =
    if is_pointed_chinese (last ∷ []) last.rest then Some (record { kind = Pointed; rest = last.rest })
    else None

-- the version of which this text is the second number and the last
abbrev pub version_after : List ℕ → Option Code
version_after text =
    option_and_then (λ second. option_and_then version_with (number_at second.rest)) (number_at text)

-- the version with which a text begins
abbrev pub tens_version_at : List ℕ → List ℕ → Option Code
tens_version_at front text =
    if begins_tens text && (not (begins is_chinese front) && not (ends_numeral front))
    then version_after (after_tens text) else None
