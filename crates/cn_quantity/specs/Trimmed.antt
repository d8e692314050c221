-- How many decimals a quantity has, and the quantity without the zeros at their end.
use Rattle.std.specs.Prelude.{ℕ, zero, suc, ◌-◌, ◌*◌, ◌/◌, ◌%◌, ◌^◌, ◌==◌, pos, int_lt, nat_abs, find, Option, Some, None, option_map, if◌then◌else◌}
use Rattle.std.specs.List.{range_with_len}
use Rattle.std.specs.Option.{option_map_or}
use Rattle.cn_core.specs.Whole.{signed_number}
use Rattle.cn_quantity.specs.declared.quantity.Quantity.{Quantity}
use Rattle.cn_quantity.specs.declared.quantity.QuantityForm.{QuantityForm}
use Rattle.cn_quantity.specs.declared.quantity.QuantityForm.TheVariants.{Whole, Decimal, Percent, Fraction}
use Rattle.cn_quantity.specs.Ratio.{form_of}

-- the number of decimals with which this divisor makes the denominator, which is below 2^128: 1 and
-- two decimals make 100
unfoldable pub decimals_over : ℕ → ℕ → Option ℕ
decimals_over divisor denominator =
    find (λ decimals. divisor * 10 ^ decimals == denominator) (range_with_len 0 39)

-- the number of decimals that a quantity of this form has: 2 for 314/100, and 1 for 125/1000 as a
-- percentage, which is 12.5%. None is known for a fraction, or if the denominator does not fit the
-- form
abbrev pub decimals_in : QuantityForm → ℕ → Option ℕ
decimals_in Whole denominator = if denominator == 1 then Some 0 else None
decimals_in Decimal denominator = option_map suc (decimals_over 10 denominator)
decimals_in Percent denominator = decimals_over 100 denominator
decimals_in Fraction denominator = None

abbrev pub decimals_of : Quantity → Option ℕ
decimals_of q = decimals_in q.form q.denominator

-- with how many zeros a number ends, of its last so many digits: the greatest exponent up to theirs
-- of a power of ten that divides it, two of 1500
abbrev pub zeros_at_end : ℕ → ℕ → ℕ
zeros_at_end zero number = 0
zeros_at_end (suc count) number =
    if number % 10 ^ suc count == 0 then suc count else zeros_at_end count number

-- the form when this number of decimals is left: a decimal without decimals is a whole number
abbrev pub form_with : QuantityForm → ℕ → QuantityForm
form_with Percent decimals = Percent
form_with Fraction decimals = Fraction
form_with form decimals = form_of decimals

-- the quantity, which has `decimals` decimals, without the last `zeros` of them, which are zeros
abbrev pub without_zeros : Quantity → ℕ → ℕ → Quantity
without_zeros q decimals zeros = record {
  numerator = signed_number (int_lt q.numerator (pos 0)) (nat_abs q.numerator / 10 ^ zeros);
  denominator = q.denominator / 10 ^ zeros;
  form = form_with q.form (decimals - zeros);
}

-- the quantity without the zeros at the end of its decimals: 35/1 for 350/10, 12.5% for 12.50%
abbrev pub trimmed : Quantity → Quantity
trimmed q =
    option_map_or
    (λ decimals. without_zeros q decimals (zeros_at_end decimals (nat_abs q.numerator)))
    (decimals_of q) q
