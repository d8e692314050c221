-- What a number is a part of: a name, an address, a formula or a longer number.
use Rattle.std.specs.Prelude.{ℕ, ◌==◌, nat_le, Bool, not, ◌&&◌, ◌||◌, List, length, drop, reverse, codes}
use Rattle.std.specs.Char.{char_set_contains, is_ascii_alphabetic}
use Rattle.std.specs.List.{list_any}
use Rattle.cn_core.specs.FigureCharacters.{is_figure}
use Rattle.cn_find.specs.Belongs.{begins_with}
use Rattle.cn_find.specs.Expressions.{is_han}
use Rattle.cn_replace.specs.Pieces.{begins, is_letter_or_figure, leading}
use Rattle.cn_codes.specs.Beside.{follows_letters, is_capital}
use Rattle.cn_codes.specs.Digits.{begins_zero, number_of}

abbrev pub has_figure : List ℕ → Bool
has_figure text = list_any is_figure text

unfoldable pub is_name_before : ℕ → Bool
is_name_before c = char_set_contains (codes "_-./\\:=#@^*&<+%％‰幺") c

unfoldable pub is_name_after : ℕ → Bool
is_name_after c = char_set_contains (codes "_\\=#@^*$&<+幺") c

-- a letter is before a number: the end of a word, or a code that goes on after the number
abbrev pub is_after_word : List ℕ → List ℕ → Bool
is_after_word front rest =
    begins is_ascii_alphabetic front
    && (not (follows_letters front) || begins is_letter_or_figure rest)

-- a name of letters and a blank is before more than two figures: RTX 4090
unfoldable pub is_after_name : List ℕ → List ℕ → Bool
is_after_name front written =
    begins_with (codes " ") front
    && (begins is_ascii_alphabetic (drop 1 front)
    && (nat_le 3 (length (leading is_figure written))
    && not (list_any (char_set_contains (codes ".")) written)))

-- a text begins with exactly three figures
abbrev pub begins_group : List ℕ → Bool
begins_group text = length (leading is_figure text) == 3

-- 280 of 1 280
unfoldable pub is_after_group : List ℕ → List ℕ → Bool
is_after_group front written =
    begins_with (codes " ") front && (begins is_figure (drop 1 front) && begins_group written)

-- 1 of 1 280
unfoldable pub is_before_group : List ℕ → List ℕ → Bool
is_before_group written rest =
    begins is_figure (reverse written)
    && (begins_with (codes " ") rest && begins_group (drop 1 rest))

-- the text before a number goes on with it, or the number has groups with blanks between them
abbrev pub is_joined_before : List ℕ → List ℕ → List ℕ → Bool
is_joined_before front written rest =
    is_after_word front rest
    || (begins is_figure front
    || (begins is_name_before front
    || (is_after_name front written
    || (is_after_group front written || is_before_group written rest))))

-- one capital letter is after at most two characters: 5G, 12A
unfoldable pub begins_letter : List ℕ → List ℕ → Bool
begins_letter written rest =
    begins is_capital rest
    && (nat_le (length written) 2
    && (not (begins is_letter_or_figure (drop 1 rest))
    && not (begins_with (codes "_-/") (drop 1 rest))))

-- a letter or a figure is after a number
abbrev pub begins_word_after : List ℕ → List ℕ → Bool
begins_word_after written rest = begins is_letter_or_figure rest && not (begins_letter written rest)

-- a point, a bar or a colon is after a number, and then a letter or a figure
unfoldable pub begins_bridge : List ℕ → Bool
begins_bridge rest = begins_with (codes ".-:：") rest && begins is_letter_or_figure (drop 1 rest)

-- a slash is after a number, and no Han character after that
unfoldable pub begins_slash : List ℕ → Bool
begins_slash rest = begins_with (codes "/") rest && not (begins is_han (drop 1 rest))

-- the text after a number, or after its measure, goes on with it
abbrev pub is_joined_after : List ℕ → List ℕ → Bool
is_joined_after written rest =
    begins_word_after written rest
    || (begins is_name_after rest || (begins_bridge rest || begins_slash rest))

-- 年 is after a number, and no 级, 期 or 来 after that
unfoldable pub begins_year : List ℕ → Bool
begins_year rest = begins_with (codes "年") rest && not (begins_with (codes "级級期来來") (drop 1 rest))

-- two figures from 61 on before 年 that do not end with 0: 98年 may be a year
abbrev pub may_be_short_year : List ℕ → List ℕ → Bool
may_be_short_year written rest =
    length written == 2
    && (not (nat_le (number_of written) 60)
    && (not (begins_zero (drop 1 written)) && begins_year rest))
