-- The new text of an expression in the kept style: its bytes, if it has one.
use Rattle.std.specs.Prelude.{ℕ, Bool, false, ◌&&◌, List, [], ◌∷◌, reverse, codes, encode_utf8_all, int_lt, pos, Option, Some, None, Result, Ok, Err, if◌then◌else◌}
use Rattle.std.specs.Char.{char_set_contains, encode_utf8}
use Rattle.std.specs.List.{list_all}
use Rattle.cn_core.specs.declared.method.ChineseCountMethod.{ChineseCountMethod}
use Rattle.cn_core.specs.FigureCharacters.{is_share_sign}
use Rattle.cn_core.specs.Refusal.{Refusal}
use Rattle.cn_quantity_text.specs.Figures.{figures_text}
use Rattle.cn_quantity.specs.declared.quantity.Quantity.{Quantity}
use Rattle.cn_quantity.specs.declared.quantity.QuantityForm.{QuantityForm}
use Rattle.cn_quantity.specs.declared.quantity.QuantityForm.TheVariants.{Whole, Percent}
use Rattle.cn_quantity.specs.Ratio.{after_bar, before_bar, is_fraction}
use Rattle.cn_replace.specs.KeptNumbers.{and_text, number_text, quantity_of}
use Rattle.cn_replace.specs.Pieces.{is_unit_from}

-- the character is a minus sign
unfoldable pub is_minus : ℕ → Bool
is_minus c = char_set_contains (codes "负負-−－") c

-- the characters are 零下
unfoldable pub is_below_zero : ℕ → ℕ → Bool
is_below_zero c d = char_set_contains (codes "零") c && char_set_contains (codes "下") d

-- a text that may begin with a minus sign: `-` for the sign, and the text after it by the given
-- rule
abbrev pub signed_text : (List ℕ → Option (List ℕ)) → List ℕ → Option (List ℕ)
signed_text text_of [] = text_of []
signed_text text_of (c ∷ text) =
    if is_minus c then and_text (Some (codes "-")) (text_of text)
    else text_of (c ∷ text)

-- the numerator of a fraction in figures
abbrev pub numerator_figures : Quantity → List ℕ
numerator_figures quantity =
    figures_text (record { numerator = quantity.numerator; denominator = 1; form = Whole })

-- the numerator of a fraction; units from 百 up alone are a number
unfoldable pub numerator_text : ChineseCountMethod → Quantity → List ℕ → Option (List ℕ)
numerator_text method quantity text =
    if list_all (is_unit_from 2) text then Some (numerator_figures quantity)
    else signed_text (number_text method) text

-- the denominator is below 1000
abbrev pub is_small : Result Quantity Refusal → Bool
is_small (Ok quantity) = int_lt quantity.numerator (pos 1000)
is_small (Err refusal) = false

-- the text after a numerator, if the denominator is not 100: `/` and the denominator
unfoldable pub denominator_text : ChineseCountMethod → List ℕ → Option (List ℕ)
denominator_text method text =
    if is_small (quantity_of method text) then and_text (Some (codes "/")) (number_text method text) else None

-- the text after a numerator
abbrev pub divisor_text : ChineseCountMethod → QuantityForm → List ℕ → Option (List ℕ)
divisor_text method Percent text = Some (codes "%")
divisor_text method form text = denominator_text method text

-- the text of a fraction
unfoldable pub fraction_text : ChineseCountMethod → Result Quantity Refusal → List ℕ → Option (List ℕ)
fraction_text method (Ok quantity) text =
    and_text (numerator_text method quantity (after_bar text))
    (divisor_text method quantity.form (before_bar text))
fraction_text method (Err refusal) text = None

-- the text of a number, perhaps with a percent sign or ‰ after it; given last character first
unfoldable pub percent_text : ChineseCountMethod → List ℕ → Option (List ℕ)
percent_text method [] = None
percent_text method (c ∷ front) =
    if is_share_sign c
    then and_text (number_text method (reverse front)) (Some (encode_utf8 c))
    else number_text method (reverse (c ∷ front))

-- the text of an expression without sign
unfoldable pub unsigned_text : ChineseCountMethod → List ℕ → Option (List ℕ)
unsigned_text method text =
    if is_fraction text then fraction_text method (quantity_of method text) text
    else percent_text method (reverse text)

-- the new text of an expression; 零下 is left unchanged
unfoldable pub kept_text : ChineseCountMethod → List ℕ → Option (List ℕ)
kept_text method (c ∷ d ∷ text) =
    if is_below_zero c d
    then and_text (Some (encode_utf8_all (c ∷ d ∷ []))) (unsigned_text method text)
    else signed_text (unsigned_text method) (c ∷ d ∷ text)
kept_text method text = signed_text (unsigned_text method) text
