-- A quantity in figures. All characters are ASCII, so each is one byte.
use Rattle.std.specs.Prelude.{ℕ, ◌+◌, ◌/◌, ◌^◌, pos, int_lt, nat_abs, List, [], ◌++◌, codes, decimal, slice_index, if◌then◌else◌}
use Rattle.std.specs.Option.{option_map_or}
use Rattle.cn_quantity.specs.declared.quantity.Quantity.{Quantity}
use Rattle.cn_quantity.specs.declared.quantity.QuantityForm.{QuantityForm}
use Rattle.cn_quantity.specs.declared.quantity.QuantityForm.TheVariants.{Percent}
use Rattle.cn_quantity.specs.Trimmed.{decimals_of, trimmed}
use Rattle.cn_quantity_text.specs.Digits.{behind_point}

-- the character of a digit
abbrev pub figure_char : ℕ → ℕ
figure_char digit = 48 + digit

-- a number whose last `decimals` digits are after the point: 3.14 for 314 with two
abbrev pub figures_with : ℕ → ℕ → List ℕ
figures_with decimals number =
    decimal (number / 10 ^ decimals)
    ++ behind_point (slice_index (codes ".") 0) figure_char decimals number

-- the percent sign of a percentage, and nothing for another form
abbrev pub percent_sign : QuantityForm → List ℕ
percent_sign Percent = codes "%"
percent_sign form = []

-- the numerator without its sign, and the decimals and percent sign or the denominator after it
abbrev pub unsigned_figures : Quantity → List ℕ
unsigned_figures q =
    option_map_or (λ decimals. figures_with decimals (nat_abs q.numerator) ++ percent_sign q.form)
    (decimals_of q)
    (decimal (nat_abs q.numerator) ++ (codes "/" ++ decimal q.denominator))

-- the figures of a quantity as it is
abbrev pub figures_of : Quantity → List ℕ
figures_of q =
    (if int_lt q.numerator (pos 0) then codes "-" else []) ++ unsigned_figures q

-- the figures of a quantity, without zeros at the end of its decimals: 3.5 for 350/100, 12.5% for
-- 125/1000 as a percentage, and 7/3
abbrev pub figures_text : Quantity → List ℕ
figures_text q = figures_of (trimmed q)
