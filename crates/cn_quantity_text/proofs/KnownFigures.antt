-- The figures of a quantity whose decimals are known.
use Rattle.std.proofs.Common.{◌≡◌, ℕ, ◌++◌, nat_abs, codes, decimal, Some, sym, ap}
use Rattle.std.specs.Option.{option_map_or}
use Rattle.cn_quantity.specs.declared.quantity.Quantity.{Quantity}
use Rattle.cn_quantity.specs.Trimmed.{decimals_of}
use Rattle.cn_quantity_text.specs.Figures.{figures_with, percent_sign, unsigned_figures}

pub figures-known : (q : Quantity) (decimals : ℕ) → Some decimals ≡ decimals_of q
    → unsigned_figures q ≡ figures_with decimals (nat_abs q.numerator) ++ percent_sign q.form
figures-known q decimals is =
    ap (λ found. option_map_or
    (λ decimals. figures_with decimals (nat_abs q.numerator) ++ percent_sign q.form) found
    (decimal (nat_abs q.numerator) ++ (codes "/" ++ decimal q.denominator))) (sym is)
