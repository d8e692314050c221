-- The form in which a written quantity is read back.
use Rattle.std.specs.Option.{option_map_or}
use Rattle.cn_quantity.specs.declared.quantity.Quantity.{Quantity}
use Rattle.cn_quantity.specs.declared.quantity.QuantityForm.{QuantityForm}
use Rattle.cn_quantity.specs.Ratio.{form_over}
use Rattle.cn_quantity.specs.Trimmed.{decimals_of}

-- its own form, or that of a fraction if its denominator is not one of its form
abbrev pub form_read_back : Quantity → QuantityForm
form_read_back q = option_map_or (λ decimals. q.form) (decimals_of q) (form_over q.denominator)
