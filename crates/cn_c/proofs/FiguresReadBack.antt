-- What is printed for a quantity in figures is UTF-8, and without a fraction bar it is read back as
-- the quantity without the zeros at the end of its decimals.
use Rattle.std.proofs.Common.{◌≡◌, ℕ, ◌^◌, ◌<◌, true, IsSome, List, take, Option, Some, None, refl, sym, ap, subst, ◌∙◌, option_map, arith}
use Rattle.std.specs.Str.{IsUtf8}
use Rattle.cn_core.specs.declared.method.ChineseCountMethod.{ChineseCountMethod}
use Rattle.cn_core.specs.Whole.{holds, signed_kind}
use Rattle.cn_quantity_text.specs.Figures.{figures_text}
use Rattle.cn_quantity_text.proofs.FiguresBack.{figures-back, figures-utf8}
use Rattle.cn_quantity.specs.declared.quantity.Quantity.{Quantity as ExactQuantity}
use Rattle.cn_quantity.specs.declared.quantity.QuantityForm.{QuantityForm}
use Rattle.cn_quantity.specs.Reading.{quantity_answer}
use Rattle.cn_quantity.specs.Trimmed.{decimals_of, trimmed}
use Rattle.cn_c.specs.declared.number.Number.{Number}
use Rattle.cn_c.specs.declared.quantity.Quantity.{Quantity}
use Rattle.cn_c.specs.Codes.{CN_DONE}
use Rattle.cn_c.specs.Halves.{AreHalves, bits_of, number_of}
use Rattle.cn_c.specs.Prints.{PutsIfItFits}
use Rattle.cn_c.specs.Quantities.{IsQuantityReadAs, IsTold}
use Rattle.cn_c.specs.QuantityPrints.{IsFiguresPrintedAs}
use Rattle.cn_c.proofs.QuantityReadBack.{halves-held, read-told}
use Rattle.cn_c.proofs.ReadBack.{put-text}

-- a quantity whose parts 128 bits hold
pub record IsHeld (exact : ExactQuantity) : Type 0 where
  pub held : holds (signed_kind 128) exact.numerator ≡ true
  pub fits : exact.denominator < 2 ^ 128

pub IsHeld-told : (numerator denominator : Number) (form : Option QuantityForm)
    (exact : ExactQuantity) → AreHalves numerator → AreHalves denominator
    → option_map (λ form. record {
      numerator = number_of true numerator;
      denominator = bits_of denominator;
      form = form;
    }) form ≡ Some exact
    → IsHeld exact
IsHeld-told numerator denominator None exact above below is = cc
IsHeld-told numerator denominator (Some form) exact above below is =
    let same : record {
      numerator = number_of true numerator;
      denominator = bits_of denominator;
      form = form;
    } ≡ exact = cc in
    subst IsHeld same (record {
      held = halves-held numerator above;
      fits = omega (arith, below.0, below.1);
    })

text-utf8 : (exact : ExactQuantity) (old new : List ℕ) (len : ℕ) → IsHeld exact
    → PutsIfItFits (figures_text exact) old CN_DONE new len → IsUtf8 (take len new)
text-utf8 exact old new len h put =
    subst IsUtf8 (sym (put-text (figures_text exact) old new len put))
    (figures-utf8 exact h.held h.fits)

pub printed-utf8 : (quantity : Option ExactQuantity) (old new : List ℕ) (len : ℕ)
    → ((exact : ExactQuantity) → quantity ≡ Some exact → IsHeld exact)
    → IsFiguresPrintedAs quantity old CN_DONE new len → IsUtf8 (take len new)
printed-utf8 None old new len held printed = absurd (omega (arith, printed.0))
printed-utf8 (Some exact) old new len held printed =
    text-utf8 exact old new len (held exact refl) printed

pub printed-read : (quantity : Option ExactQuantity) (exact : ExactQuantity)
    (method : Option ChineseCountMethod) (old new : List ℕ) (len status : ℕ) (told : Quantity)
    → quantity ≡ Some exact → IsHeld exact → IsSome (decimals_of exact) → IsSome method
    → IsFiguresPrintedAs quantity old CN_DONE new len
    → IsQuantityReadAs method (take len new) status told
    → (status ≡ CN_DONE) × IsTold (trimmed exact) told
printed-read quantity exact None old new len status told is h some named printed tells = cc
printed-read quantity exact (Some method) old new len status told is h some named printed tells =
    let put : PutsIfItFits (figures_text exact) old CN_DONE new len =
    subst (λ quantity. IsFiguresPrintedAs quantity old CN_DONE new len) is printed in
    read-told (trimmed exact) method (take len new) (text-utf8 exact old new len h put)
    (ap (quantity_answer method) (put-text (figures_text exact) old new len put)
    ∙ figures-back method exact h.held h.fits some) status told tells
