-- Which characters occur in quantities besides those of numerals.
use Rattle.std.specs.Prelude.{ℕ, Bool, codes, Option, Some, None, is_some, if◌then◌else◌}
use Rattle.std.specs.Char.{char_set_contains, is_ascii_digit}
use Rattle.cn_core.specs.declared.sign.Sign.{Sign}
use Rattle.cn_core.specs.declared.sign.Sign.TheVariants.{Plus, Minus}
use Rattle.cn_core.specs.Characters.{digit_of, sign_of as numeral_sign}
use Rattle.cn_core.specs.FigureCharacters.{figure_of, is_figure_minus, is_figure_plus, is_figure_point, is_per_mille, is_percent}
use Rattle.cn_quantity.specs.declared.characters.DigitKind.{DigitKind}
use Rattle.cn_quantity.specs.declared.characters.DigitKind.TheVariants.{Figure, Chinese}

-- the value of a Chinese digit, which is a digit of numerals that is not a figure: 5 for 五, and
-- none for the figure 5
unfoldable pub chinese_digit_of : ℕ → Option ℕ
chinese_digit_of c = if is_ascii_digit c then None else digit_of c

-- the value of a digit of this kind
abbrev pub digit_by : DigitKind → ℕ → Option ℕ
digit_by Figure c = figure_of c
digit_by Chinese c = chinese_digit_of c

-- the sign of a sign character, of figures or of numerals
unfoldable pub sign_of : ℕ → Option Sign
sign_of c =
    if is_figure_plus c then Some Plus
    else (if is_figure_minus c then Some Minus else numeral_sign c)

-- whether a character is the point between digits of this kind
unfoldable pub is_point : DigitKind → ℕ → Bool
is_point Figure c = is_figure_point c
is_point Chinese c = char_set_contains (codes "點点") c

-- the number by which a sign at the end of a share divides: 100 for a percent sign, 1000 for ‰
unfoldable pub share_of : ℕ → Option ℕ
share_of c =
    if is_percent c then Some 100
    else (if is_per_mille c then Some 1000 else None)

abbrev pub is_share : ℕ → Bool
is_share c = is_some (share_of c)

-- the two characters of 分之
unfoldable pub is_fen : ℕ → Bool
is_fen c = char_set_contains (codes "分") c

unfoldable pub is_zhi : ℕ → Bool
is_zhi c = char_set_contains (codes "之") c

-- the two characters of 零下
abbrev pub is_ling : ℕ → Bool
is_ling c = char_set_contains (codes "零") c

abbrev pub is_xia : ℕ → Bool
is_xia c = char_set_contains (codes "下") c

-- 又 between a whole number and a fraction
abbrev pub is_you : ℕ → Bool
is_you c = char_set_contains (codes "又") c
