-- The figures of a quantity are UTF-8, and without a fraction bar they are read as that quantity
-- without the zeros at the end of its decimals.
use Rattle.std.proofs.Common.{◌≡◌, ℕ, nat_abs, ◌-◌, ◌^◌, ◌<◌, true, Option, Some, None, IsSome, Ok, refl}
use Rattle.std.proofs.lemmas.Str.{IsUtf8-from_ascii}
use Rattle.std.specs.Str.{IsUtf8}
use Rattle.cn_core.specs.declared.method.ChineseCountMethod.{ChineseCountMethod}
use Rattle.cn_core.specs.Whole.{holds, signed_kind}
use Rattle.cn_quantity_text.specs.Figures.{figures_text}
use Rattle.cn_quantity_text.proofs.FiguresRead.{IsAscii-figures, figures-read}
use Rattle.cn_quantity_text.proofs.TrimmedDecimals.{IsTrimmed-left}
use Rattle.cn_quantity.specs.declared.quantity.Quantity.{Quantity}
use Rattle.cn_quantity.specs.Reading.{quantity_answer}
use Rattle.cn_quantity.specs.Trimmed.{decimals_of, trimmed, without_zeros, zeros_at_end}

pub figures-back : (method : ChineseCountMethod) (q : Quantity)
    → holds (signed_kind 128) q.numerator ≡ true → q.denominator < 2 ^ 128 → IsSome (decimals_of q)
    → quantity_answer method (figures_text q) ≡ Ok (trimmed q)
figures-back method q held fits some = by (decimals_of q) refl some where
  by : (o : Option ℕ) → decimals_of q ≡ o → IsSome o
      → quantity_answer method (figures_text q) ≡ Ok (trimmed q)
  by None is some = cc
  by (Some decimals) is some =
      let h = IsTrimmed-left q decimals held fits is in
      let zeros = zeros_at_end decimals (nat_abs q.numerator) in
      rw is (figures-read method (without_zeros q decimals zeros) (decimals - zeros) h.held h.fits
      h.is)

pub figures-utf8 : (q : Quantity) → holds (signed_kind 128) q.numerator ≡ true
    → q.denominator < 2 ^ 128 → IsUtf8 (figures_text q)
figures-utf8 q held fits = by (decimals_of q) refl where
  by : (o : Option ℕ) → decimals_of q ≡ o → IsUtf8 (figures_text q)
  by None is = rw is (IsUtf8-from_ascii _ (IsAscii-figures q held fits))
  by (Some decimals) is =
      let h = IsTrimmed-left q decimals held fits is in
      let left = without_zeros q decimals (zeros_at_end decimals (nat_abs q.numerator)) in
      rw is (IsUtf8-from_ascii _ (IsAscii-figures left h.held h.fits))
