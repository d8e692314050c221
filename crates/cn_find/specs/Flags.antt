-- What the text around a number, and the number's own characters, say about it.
use Rattle.std.specs.Prelude.{ℕ, ◌+◌, nat_le, Bool, false, not, ◌&&◌, ◌||◌, ◌==◌, List, [], ◌∷◌, ◌++◌, reverse, codes, Option, Some, is_some, if◌then◌else◌}
use Rattle.std.specs.Char.{char_set_contains, is_ascii_alphanumeric}
use Rattle.cn_core.specs.Characters.{digit_of, rank_of}
use Rattle.cn_core.specs.FigureCharacters.{is_figure, is_wide_figure}
use Rattle.cn_find.specs.Belongs.{begins_with, first_is, is_chinese_digit}

-- the character clings to a number that it touches: it is an ASCII letter, a digit of any kind, or
-- one of these others
unfoldable pub clings : ℕ → Bool
clings c =
    is_ascii_alphanumeric c || is_wide_figure c || is_some (digit_of c)
    || char_set_contains (codes "_廿卅卌幺") c

-- the character links a number to the character on its other side
unfoldable pub is_link : ℕ → Bool
is_link c = char_set_contains (codes ".,-点點") c

-- the characters begin with one to which a link can lead: one that clings, or a unit
abbrev pub begins_linked : List ℕ → Bool
begins_linked text = first_is (λ c. clings c || is_some (rank_of c)) text

-- a number continues with these characters, of which the nearest to it is the first
abbrev pub goes_on : List ℕ → Bool
goes_on [] = false
goes_on (c ∷ others) = clings c || (is_link c && begins_linked others)

-- a number between these texts stands alone: neither text continues it
abbrev pub stands_alone : List ℕ → List ℕ → Bool
stands_alone before after = not (goes_on (reverse before)) && not (goes_on after)

-- the characters begin with a unit
abbrev pub begins_with_unit : List ℕ → Bool
begins_with_unit text = first_is (λ c. is_some (rank_of c)) text

-- two neighbouring digits
pub record Pair : Type 0 where
  pub first : ℕ
  pub second : ℕ

-- the character is a digit of any kind, full-width digits included
abbrev pub is_any_digit : ℕ → Bool
is_any_digit c = is_some (digit_of c) || is_wide_figure c

-- the character and the first of the others as a pair, if both are digits
abbrev pub pair_at : ℕ → List ℕ → List Pair
pair_at c [] = []
pair_at c (next ∷ others) =
    if is_any_digit c && is_any_digit next then record { first = c; second = next } ∷ [] else []

-- the pairs of neighbouring digits before the first 点
abbrev pub pairs : List ℕ → List Pair
pairs [] = []
pairs (c ∷ others) =
    if char_set_contains (codes "点點") c then [] else pair_at c others ++ pairs others

-- the first digit is at least 1 and the second is the next one; or they are 3 and 5
abbrev pub are_near : Option ℕ → Option ℕ → Bool
are_near (Some value) (Some next) =
    nat_le 1 value && (next == value + 1 || (value == 3 && next == 5))
are_near value next = false

-- two Chinese digits that together mean an approximate number, as 五六 and 三五 do
abbrev pub is_estimate : Pair → Bool
is_estimate pair =
    is_chinese_digit pair.first && is_chinese_digit pair.second
    && are_near (digit_of pair.first) (digit_of pair.second)

-- there is exactly one pair, and it means an approximate number
abbrev pub is_one_estimate : List Pair → Bool
is_one_estimate (pair ∷ []) = is_estimate pair
is_one_estimate others = false

-- the characters make the number before them approximate: they begin with 几, 多 or another of
-- these, or with 好几 or 出头
abbrev pub begins_estimate : List ℕ → Bool
begins_estimate [] = false
begins_estimate (c ∷ others) =
    char_set_contains (codes "几幾多余餘来來") c
    || ((char_set_contains (codes "好") c && begins_with (codes "几幾") others)
    || (char_set_contains (codes "出") c && begins_with (codes "头頭") others))

-- the number between these texts is approximate: it begins with a unit, directly after 几 or 数, as
-- in 几十; or one of the others is after it, as in 十几, 三百多 and 五十好几; or its only pair of
-- neighbouring digits means an approximate number, as in 兩三百
abbrev pub is_about : List ℕ → List ℕ → List ℕ → Bool
is_about before text after =
    (begins_with (codes "几幾数數") (reverse before) && begins_with_unit text)
    || begins_estimate after
    || is_one_estimate (pairs text)

-- the text is one character, and not a figure; in a number that is a Chinese character
abbrev pub is_one_character : List ℕ → Bool
is_one_character (c ∷ []) = not (is_figure c)
is_one_character text = false
