-- Ranges whose ends share a unit or 百分之: 3~5万, 三到五百, 百分之三到五.
use Rattle.std.specs.Prelude.{ℕ, ◌+◌, ◌/◌, nat_abs, Bool, true, false, not, ◌&&◌, ◌||◌, ◌==◌, nat_le, nat_lt, List, [], ◌∷◌, length, reverse, codes, chars, encode_utf8_all, Option, Some, Result, Ok, Err, if◌then◌else◌}
use Rattle.std.specs.Char.{char_set_contains}
use Rattle.cn_core.specs.declared.method.ChineseCountMethod.TheVariants.{TenThousand}
use Rattle.cn_core.specs.Characters.{digit_of}
use Rattle.cn_core.specs.Mark.{Mark, unit, mark_of}
use Rattle.cn_core.specs.Refusal.{Refusal}
use Rattle.cn_quantity.specs.declared.quantity.Quantity.{Quantity}
use Rattle.cn_quantity.specs.declared.quantity.QuantityForm.{QuantityForm}
use Rattle.cn_quantity.specs.declared.quantity.QuantityForm.TheVariants.{Percent}
use Rattle.cn_quantity.specs.Reading.{quantity_answer}
use Rattle.cn_find.specs.Belongs.{is_chinese_digit}
use Rattle.cn_find.specs.Expressions.{is_power, is_tens}
use Rattle.cn_find.specs.Flags.{is_any_digit}

-- the character can belong to a number, a percentage or a fraction without its sign
unfoldable pub is_of_amount : ℕ → Bool
is_of_amount c =
    is_any_digit c || is_tens c || is_power (mark_of c)
    || char_set_contains (codes "点點.．分之%％") c

-- the characters with which a text begins, up to the first that is not one of these
abbrev pub amount_of : List ℕ → List ℕ
amount_of [] = []
amount_of (c ∷ text) = if is_of_amount c then c ∷ amount_of text else []

-- the second digit is the one that follows the first
abbrev pub is_next : Option ℕ → Option ℕ → Bool
is_next (Some value) (Some next) = next == value + 1
is_next value next = false

-- the character can separate the ends of a range
unfoldable pub is_range_link : ℕ → Bool
is_range_link c = char_set_contains (codes "到至~～－–—〜-") c

-- the form is that of a percentage
abbrev pub is_percent_form : QuantityForm → Bool
is_percent_form Percent = true
is_percent_form form = false

-- the whole part of a quantity, without its sign
abbrev pub whole_part : Quantity → ℕ
whole_part q = nat_abs q.numerator / q.denominator

-- the first unit is smaller than the second; this also holds if either mark is not a unit
abbrev pub is_below_mark : Mark → Mark → Bool
is_below_mark (unit low) (unit high) = nat_lt low high
is_below_mark low high = true

-- the nearest character is not a unit that is as great as this one or greater
abbrev pub ends_below : ℕ → List ℕ → Bool
ends_below c [] = true
ends_below c (d ∷ front) = is_below_mark (mark_of d) (mark_of c)

-- the second is a quantity, and the whole part of the first is at most its whole part
abbrev pub is_at_most : Quantity → Result Quantity Refusal → Bool
is_at_most low (Ok high) = nat_le (whole_part low) (whole_part high)
is_at_most low (Err refusal) = false

-- the second text ends with a unit that can count both: the first does not end with a unit as
-- great, and its whole part is at most that of the second text without the unit. Both texts are
-- given last character first
abbrev pub counts_both : Quantity → List ℕ → List ℕ → Bool
counts_both quantity low [] = false
counts_both quantity low (c ∷ head) =
    is_power (mark_of c) && (ends_below c low
    && is_at_most quantity (quantity_answer TenThousand (encode_utf8_all (reverse head))))

-- exactly one of the two is a percentage
abbrev pub is_one_percent : Quantity → Quantity → Bool
is_one_percent a b =
    (is_percent_form a.form && not (is_percent_form b.form))
    || (not (is_percent_form a.form) && is_percent_form b.form)

-- the two are quantities that share: exactly one is a percentage, or the second, which has two
-- characters or more, ends with a unit that can count both
abbrev pub do_share : List ℕ → List ℕ → Result Quantity Refusal
    → Result Quantity Refusal → Bool
do_share low high (Ok a) (Ok b) =
    is_one_percent a b
    || (nat_le 2 (length (chars high)) && counts_both a (reverse (chars low))
    (reverse (chars high)))
do_share low high a b = false

-- two texts, given by their bytes and read by the standard method, share in this way
abbrev pub shares : List ℕ → List ℕ → Bool
shares low high =
    do_share low high (quantity_answer TenThousand low) (quantity_answer TenThousand high)

-- the first text is one Chinese digit, and the second begins with the digit that follows it
abbrev pub precedes : List ℕ → List ℕ → Bool
precedes (c ∷ []) (d ∷ text) =
    is_chinese_digit c && (is_chinese_digit d && is_next (digit_of c) (digit_of d))
precedes low high = false

-- the texts are the ends of a range that this character separates
abbrev pub are_ends : ℕ → List ℕ → List ℕ → Bool
are_ends c low high =
    (is_range_link c || (char_set_contains (codes "、") c && precedes (chars low) (chars high)))
    && shares low high

-- the text, given by its bytes, is the first end of a range, and the second end is after it
abbrev pub is_first_end : List ℕ → List ℕ → Bool
is_first_end text [] = false
is_first_end text (c ∷ after) =
    are_ends c text (encode_utf8_all (amount_of after))

-- the text, given by its bytes, is the second end of a range, and the first end is before it
abbrev pub is_second_end : List ℕ → List ℕ → Bool
is_second_end text [] = false
is_second_end text (c ∷ front) =
    are_ends c (encode_utf8_all (reverse (amount_of front))) text

-- the text is one end of a range between these texts, all given by their bytes
abbrev pub is_end_of_range : List ℕ → List ℕ → List ℕ → Bool
is_end_of_range before text after =
    is_first_end text (chars after) || is_second_end text (reverse (chars before))
