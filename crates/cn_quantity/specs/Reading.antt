-- The answer to a string that is read as a quantity.
use Rattle.std.specs.Prelude.{ℕ, ◌+◌, Bool, false, ◌&&◌, ◌||◌, ◌==◌, List, [], ◌∷◌, drop, Option, Some, None, is_none, is_some, Result, Ok, Err, if◌then◌else◌}
use Rattle.std.specs.Option.{option_map_or}
use Rattle.cn_core.specs.declared.method.ChineseCountMethod.{ChineseCountMethod}
use Rattle.cn_core.specs.declared.sign.Sign.{Sign}
use Rattle.cn_core.specs.declared.sign.Sign.TheVariants.{Minus}
use Rattle.cn_core.specs.Characters.{digit_of, rank_of}
use Rattle.cn_core.specs.CharIndex.{char_index_of}
use Rattle.cn_core.specs.FigureCharacters.{figure_of, is_currency}
use Rattle.cn_core.specs.Reading.{sign_len, is_minus, too_far, typed_number}
use Rattle.cn_core.specs.Refusal.{Refusal, incorrect_at, too_large}
use Rattle.cn_core.specs.Text.{text_of}
use Rattle.cn_core.specs.Whole.{signed_kind, signed_number}
use Rattle.cn_quantity.specs.declared.quantity.Quantity.{Quantity}
use Rattle.cn_quantity.specs.declared.ratio.Ratio.{Ratio}
use Rattle.cn_quantity.specs.Answer.{and_then}
use Rattle.cn_quantity.specs.Characters.{is_ling, is_xia, sign_of}
use Rattle.cn_quantity.specs.Ratio.{is_negated, negated_answer, ratio_answer}

-- the one sign at the start of a text
abbrev pub leading_sign : List ℕ → Option Sign
leading_sign [] = None
leading_sign (c ∷ rest) = sign_of c

-- a number may begin with the character: a digit of numerals, a figure or 十
abbrev pub begins_number : ℕ → Bool
begins_number c =
    is_some (digit_of c) || is_some (figure_of c)
    || option_map_or (λ rank. rank == 1) (rank_of c) false

-- the text begins with 零下 and then such a character
abbrev pub is_below_zero : List ℕ → Bool
is_below_zero (c ∷ d ∷ next ∷ rest) = is_ling c && is_xia d && begins_number next
is_below_zero text = false

-- the sign before a number, in which 零下 is a minus, and the number of its characters
abbrev pub number_sign : List ℕ → Option Sign
number_sign text = if is_below_zero text then Some Minus else leading_sign text

abbrev pub sign_length : List ℕ → ℕ
sign_length text = if is_below_zero text then 2 else sign_len (leading_sign text)

-- the number of characters of a ¥ before a figure: 1 if there is one, else 0
abbrev pub yen_length : List ℕ → ℕ
yen_length (c ∷ next ∷ rest) = if is_currency c && is_some (figure_of next) then 1 else 0
yen_length text = 0

-- the number of characters before the number: its sign and ¥
abbrev pub front_length : List ℕ → ℕ
front_length text = sign_length text + yen_length (drop (sign_length text) text)

-- the ratio with its sign, if its numerator fits
abbrev pub signed_ratio : Option Sign → Ratio → Result Quantity Refusal
signed_ratio sign ratio =
    and_then (typed_number (signed_kind 128) (signed_number (is_minus sign) ratio.numerator))
    (λ numerator. Ok (record {
      numerator = numerator;
      denominator = ratio.denominator;
      form = ratio.form;
    }))

-- the answer, from the sign and from the answer to the text after the first `front` characters. A
-- place in that text is moved by these and becomes a char_index of the string
abbrev pub signed_answer : List ℕ → Option Sign → ℕ → Result Ratio Refusal
    → Result Quantity Refusal
signed_answer bytes sign front (Ok ratio) = signed_ratio sign ratio
signed_answer bytes sign front (Err too_large) = Err (too_far sign)
signed_answer bytes sign front (Err (incorrect_at place)) =
    Err (incorrect_at (char_index_of bytes (place + front)))
signed_answer bytes sign front (Err refusal) = Err refusal

-- the answer to a string, given by its bytes
abbrev pub quantity_answer : ChineseCountMethod → List ℕ → Result Quantity Refusal
quantity_answer method bytes =
    let text = text_of bytes in
    let sign = number_sign text in
    let rest = drop (front_length text) text in
    if is_none sign && is_negated rest
    then signed_answer bytes (Some Minus) (front_length text) (negated_answer method rest)
    else signed_answer bytes sign (front_length text) (ratio_answer method rest)
