-- Ranges: two quantities with a link between them, such as 三到五万.
use Rattle.std.specs.Prelude.{ℕ, ◌*◌, ◌^◌, pos, int_lt, nat_abs, nat_lt, nat_le, Bool, true, false, not, ◌&&◌, ◌||◌, List, [], ◌∷◌, ◌++◌, length, codes, chars, encode_utf8_all, Option, Some, None, is_some, Result, Ok, Err, if◌then◌else◌}
use Rattle.std.specs.Char.{char_set_contains, encode_utf8}
use Rattle.std.specs.List.{list_all, list_any}
use Rattle.std.specs.Option.{option_and_then, option_map, option_map_or}
use Rattle.std.specs.Result.{result_ok}
use Rattle.cn_core.specs.declared.method.ChineseCountMethod.TheVariants.{TenThousand}
use Rattle.cn_core.specs.FigureCharacters.{is_figure}
use Rattle.cn_core.specs.Refusal.{Refusal}
use Rattle.cn_find.specs.declared.doubt.Doubt.{Doubt}
use Rattle.cn_find.specs.declared.doubt.Doubt.TheVariants.{Word, Digits, Term, Time}
use Rattle.cn_find.specs.declared.wanted.Wanted.{Wanted}
use Rattle.cn_find.specs.Doubt.{doubt_of, ends_in_next_word}
use Rattle.cn_find.specs.Expressions.{expression_rule}
use Rattle.cn_find.specs.Flags.{is_about}
use Rattle.cn_find.specs.Spans.{Span, in_front, run_after, span_of}
use Rattle.cn_find.specs.Words.{ends_week}
use Rattle.cn_quantity.specs.declared.quantity.Quantity.{Quantity}
use Rattle.cn_quantity.specs.declared.quantity.QuantityForm.{QuantityForm}
use Rattle.cn_quantity.specs.declared.quantity.QuantityForm.TheVariants.{Percent, Fraction}
use Rattle.cn_quantity.specs.Reading.{quantity_answer}
use Rattle.cn_replace.specs.Clings.{clings}
use Rattle.cn_replace.specs.Kept.{kept_text}
use Rattle.cn_replace.specs.declared.options.Style.{Style}
use Rattle.cn_replace.specs.declared.options.Style.TheVariants.{Kept, Expanded}
use Rattle.cn_replace.specs.KeptNumbers.{and_text, quantity_figures}
use Rattle.cn_replace.specs.Pieces.{begins, is_unit_from}
use Rattle.cn_phrase.specs.declared.range.Ends.{Ends as CodeEnds}
use Rattle.cn_phrase.specs.declared.range.QuantityRange.{QuantityRange}
use Rattle.cn_phrase.specs.Between.{characters_before, part_between}

-- two expressions with a link between them, and the characters after them
pub record Ends : Type 0 where
  pub low : Span
  pub link : ℕ
  pub high : Span
  pub rest : List ℕ

-- what an `Ends` in the code is
abbrev pub ends_of : CodeEnds → Ends
ends_of e = record {
  low = span_of e.low;
  link = e.link;
  high = span_of e.high;
  rest = chars e.high.after.now;
}

abbrev pub is_link : ℕ → Bool
is_link c = char_set_contains (codes "到至~～－–—〜-") c

-- a link and an expression, after the expression `low`
abbrev pub linked : Wanted → Span → List ℕ → Option Ends
linked wanted low [] = None
linked wanted low (c ∷ text) =
    let front = c ∷ in_front (low.before ++ low.text) in
    if is_link c then option_map (λ rest. record {
      low = low;
      link = c;
      high = part_between front text rest;
      rest = rest;
    }) (run_after (expression_rule wanted) front text) else None

-- the two expressions with which a text begins; the characters before it are `front`
abbrev pub ends_at : Wanted → List ℕ → List ℕ → Option Ends
ends_at wanted front text =
    option_and_then (λ rest. linked wanted (part_between front text rest) rest)
    (run_after (expression_rule wanted) front text)

-- the link is a word
abbrev pub is_word : ℕ → Bool
is_word link = char_set_contains (codes "到至") link

abbrev pub is_fraction_form : QuantityForm → Bool
is_fraction_form Fraction = true
is_fraction_form form = false

-- the expression is a quantity that is no fraction and not below 0
abbrev pub is_number : Result Quantity Refusal → Bool
is_number (Ok q) = not (is_fraction_form q.form) && not (int_lt q.numerator (pos 0))
is_number (Err refusal) = false

-- the expression can be an end of a range: it is a number that is not below 0, and not approximate
abbrev pub is_end : Span → Bool
is_end span =
    is_number (quantity_answer TenThousand span.text)
    && not (is_about (chars span.before) (chars span.text) (chars span.after))

-- a number in a phrase may mean something else, as 五一 does
abbrev pub is_doubt_of_end : Option Doubt → Bool
is_doubt_of_end (Some Word) = true
is_doubt_of_end (Some Digits) = true
is_doubt_of_end (Some Term) = true
is_doubt_of_end (Some Time) = true
is_doubt_of_end other = false

-- the number may mean something else, or its last 一 begins the next word, as in 三千到五千一个月
abbrev pub is_doubtful_end : Span → Bool
is_doubtful_end end =
    ends_in_next_word (chars end.text) (chars end.after)
    || is_doubt_of_end (doubt_of end.before end.text end.after)

-- 一到 before 点, 时, 月, 日 or 号: 一到 may mean "as soon as"
abbrev pub is_as_soon : List ℕ → List ℕ → Bool
is_as_soon (c ∷ []) after =
    char_set_contains (codes "一") c && begins (λ d. char_set_contains (codes "点點时時月日号號") d) after
is_as_soon text after = false

-- the text begins with a zero and another figure
abbrev pub begins_zero : List ℕ → Bool
begins_zero [] = false
begins_zero (c ∷ text) = char_set_contains (codes "0０") c && begins is_figure text

-- the text begins with a sign
abbrev pub begins_sign : List ℕ → Bool
begins_sign text = begins (λ c. char_set_contains (codes "正+＋负負-−－") c) text

abbrev pub have_both_figures : List ℕ → List ℕ → Bool
have_both_figures low high = list_any is_figure low && list_any is_figure high

abbrev pub have_no_figures : List ℕ → List ℕ → Bool
have_no_figures low high = not (list_any is_figure low) && not (list_any is_figure high)

-- the ends of a range whose link is a sign: both have figures or neither has, neither has a leading
-- zero, and the second has no sign
unfoldable pub are_plain : List ℕ → List ℕ → Bool
are_plain low high =
    (have_both_figures low high || have_no_figures low high)
    && (not (begins_zero low) && (not (begins_zero high) && not (begins_sign high)))

-- the text before or after a range whose link is a sign goes on with it
abbrev pub ends_sign : List ℕ → Bool
ends_sign front =
    begins (λ c. is_figure c || char_set_contains (codes "-/.:：~=+^*×_$#@") c) front

abbrev pub goes_on : List ℕ → Bool
goes_on after = begins (λ c. char_set_contains (codes "-/~:：=+^*×_\\") c) after

abbrev pub is_percent_form : QuantityForm → Bool
is_percent_form Percent = true
is_percent_form form = false

abbrev pub is_percent : List ℕ → Bool
is_percent text = option_map_or (λ q. is_percent_form q.form) (result_ok (quantity_answer TenThousand text)) false

-- a product, if it is less than 2^128
abbrev pub product : ℕ → ℕ → Option ℕ
product a b = if nat_lt (a * b) (2 ^ 128) then Some (a * b) else None

abbrev pub is_less_than : Option ℕ → Option ℕ → Bool
is_less_than (Some a) (Some b) = nat_lt a b
is_less_than a b = false

-- a quantity is less than another one, and they can be compared in 128 bits
abbrev pub is_less : Quantity → Quantity → Bool
is_less q other =
    is_less_than (product (nat_abs q.numerator) other.denominator)
    (product (nat_abs other.numerator) q.denominator)

abbrev pub are_less : Option Quantity → Option Quantity → Bool
are_less (Some q) (Some other) = is_less q other
are_less q other = false

-- no longer than 48 bytes
abbrev pub is_short : List ℕ → Bool
is_short text = nat_le (length text) 48

-- a unit that can count for both ends: one from 百 up
abbrev pub is_great : ℕ → Bool
is_great c = is_unit_from 2 c

-- the units at the end of a text, and what is before them
abbrev pub units_of : List ℕ → List ℕ
units_of [] = []
units_of (c ∷ text) = if list_all is_great (c ∷ text) then c ∷ text else units_of text

abbrev pub before_units : List ℕ → List ℕ
before_units text = characters_before text (units_of text)

-- a quantity is there, and is above 0
abbrev pub is_positive : Option Quantity → Bool
is_positive (Some q) = int_lt (pos 0) q.numerator
is_positive None = false

-- the units at the end of the second text count for the first too: that has none, is above 0, and is
-- less than what is before them
abbrev pub counts_for_both : List ℕ → List ℕ → Bool
counts_for_both low high =
    is_short high && (not (list_any is_great (chars low))
    && (is_positive (result_ok (quantity_answer TenThousand low))
    && are_less (result_ok (quantity_answer TenThousand low))
    (result_ok (quantity_answer TenThousand (encode_utf8_all (before_units (chars high)))))))

abbrev pub shared_units : List ℕ → List ℕ → List ℕ
shared_units low high =
    if counts_for_both low high then encode_utf8_all (units_of (chars high)) else []

abbrev pub is_percent_alone : List ℕ → List ℕ → Bool
is_percent_alone one other = is_percent one && not (is_percent other)

-- the texts that count after each end too: a percent sign that only the other one has, or the units of
-- the second
abbrev pub more_of_low : List ℕ → List ℕ → List ℕ
more_of_low low high = if is_percent_alone high low then codes "%" else shared_units low high

abbrev pub more_of_high : List ℕ → List ℕ → List ℕ
more_of_high low high = if is_percent_alone low high then codes "%" else []

-- the quantity of a text with more after it
abbrev pub quantity_with : List ℕ → List ℕ → Option Quantity
quantity_with text more =
    if is_short text && is_short more then result_ok (quantity_answer TenThousand (text ++ more)) else None

abbrev pub rising_range : Option Quantity → Option Quantity → Option QuantityRange
rising_range (Some q) (Some other) =
    if is_less q other then Some (record { low = q; high = other }) else None
rising_range q other = None

-- the range of two texts; none if the second is not greater
abbrev pub range_of : List ℕ → List ℕ → Option QuantityRange
range_of low high =
    rising_range (quantity_with low (more_of_low low high)) (quantity_with high (more_of_high low high))

-- the link and what is around it are those of a range
abbrev pub is_linked : Ends → Bool
is_linked e =
    if is_word e.link then not (is_as_soon (chars e.low.text) (chars e.high.after))
    else are_plain (chars e.low.text) (chars e.high.text)
    && (not (ends_sign (in_front e.low.before)) && (not (goes_on (chars e.high.after))
    && is_some (range_of e.low.text e.high.text)))

abbrev pub is_range : Ends → Bool
is_range e =
    is_end e.low && (is_end e.high
    && (not (clings (chars e.low.before) (chars e.high.after))
    && (not (ends_week (in_front e.low.before)) && is_linked e)))

-- two expressions with a link between them, if they are a range
abbrev pub range_from : Option Ends → Option Ends
range_from ends = option_and_then (λ e. if is_range e then Some e else None) ends

-- the range that begins with a text, if one does; the characters before it are `front`
abbrev pub range_at : Wanted → List ℕ → List ℕ → Option Ends
range_at wanted front text = range_from (ends_at wanted front text)

-- a number in figures, in a style
abbrev pub text_in_style : Style → List ℕ → Option (List ℕ)
text_in_style Kept number = kept_text TenThousand number
text_in_style Expanded number = quantity_figures TenThousand number

-- the new text of an end
abbrev pub end_text : Style → List ℕ → List ℕ → Option (List ℕ)
end_text style text more =
    if is_short text && is_short more then text_in_style style (chars (text ++ more)) else None

abbrev pub low_text : Style → Ends → Option (List ℕ)
low_text style e = end_text style e.low.text (more_of_low e.low.text e.high.text)

-- the new text of the link and the second end
abbrev pub high_text : Style → Ends → Option (List ℕ)
high_text style e = and_text (Some (encode_utf8 e.link))
    (end_text style e.high.text (more_of_high e.low.text e.high.text))

-- one of the ends has units that this style writes out
abbrev pub are_expanded : Style → List ℕ → List ℕ → Bool
are_expanded Kept low high = false
are_expanded Expanded low high = list_any (is_unit_from 2) low || list_any (is_unit_from 2) high

-- the new text of a range; it stays if both ends have figures and nothing is written out
abbrev pub range_text : Style → Ends → Option (List ℕ)
range_text style e =
    if have_both_figures (chars e.low.text) (chars e.high.text)
    && not (are_expanded style (chars e.low.text) (chars e.high.text))
    then None else and_text (low_text style e) (high_text style e)
