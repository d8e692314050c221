-- What the calls that print quantities write and return.
use Rattle.std.specs.Prelude.{ℕ, ◌==◌, pos, int_lt, List, Option, Some, None, MatchOption, slice_get, if◌then◌else◌}
use Rattle.std.specs.Bool.{MatchBool}
use Rattle.std.specs.Option.{option_map}
use Rattle.chinese_number.specs.declared.ChineseCase.{ChineseCase}
use Rattle.chinese_number.specs.declared.ChineseCountMethod.{ChineseCountMethod}
use Rattle.chinese_number.specs.declared.ChineseVariant.{ChineseVariant}
use Rattle.cn_quantity_text.specs.Figures.{figures_text}
use Rattle.cn_quantity_text.specs.Numerals.{greatest_spelled, is_written_by}
use Rattle.cn_quantity_text.specs.ReadBack.{form_read_back}
use Rattle.cn_quantity_text.specs.Writes.{numeral_bytes}
use Rattle.cn_dynamic.specs.declared.Way.TheVariants.{Units}
use Rattle.cn_dynamic.specs.Either.{written_method}
use Rattle.cn_quantity.specs.declared.quantity.Quantity.{Quantity as ExactQuantity}
use Rattle.cn_c.specs.declared.codes.NamedWay.{NamedWay}
use Rattle.cn_c.specs.declared.codes.NamedWay.TheVariants.{By, Either}
use Rattle.cn_c.specs.declared.quantity.Quantity.{Quantity}
use Rattle.cn_c.specs.Codes.{cases, named_ways, scripts, CN_NOT_A_QUANTITY, CN_TOO_LARGE, CN_TOO_SMALL, CN_UNKNOWN}
use Rattle.cn_c.specs.Prints.{PutsNothing, PutsIfItFits}
use Rattle.cn_c.specs.Quantities.{form_code, quantity_of}

-- the result of printing a quantity by a method: its text, or the status that says why there is
-- none
abbrev pub PutsQuantity : ExactQuantity → ChineseCountMethod → ChineseVariant → ChineseCase
    → List ℕ → ℕ → List ℕ → ℕ → Type 0
PutsQuantity quantity method script case old status new len =
    MatchBool (quantity.denominator == 0) (PutsNothing CN_NOT_A_QUANTITY old status new len)
    (MatchBool (is_written_by method quantity)
    (PutsIfItFits (numeral_bytes script case method quantity) old status new len)
    (PutsNothing (if int_lt quantity.numerator (pos 0) then CN_TOO_SMALL else CN_TOO_LARGE) old
    status new len))

-- the method by which a quantity is written: that of a way with units, and for either way that of
-- the greatest number that is spelled in it
abbrev pub method_written : Option NamedWay → ChineseVariant → ExactQuantity
    → Option ChineseCountMethod
method_written (Some (By (Units method))) script quantity = Some method
method_written (Some Either) script quantity =
    Some (written_method script (greatest_spelled quantity))
method_written way script quantity = None

-- the result of printing a quantity, or UNKNOWN if the quantity has no form, or a method, script or
-- case is not named
abbrev pub IsQuantityPrintedAs : Option ExactQuantity → Option NamedWay → Option ChineseVariant
    → Option ChineseCase → List ℕ → ℕ → List ℕ → ℕ → Type 0
IsQuantityPrintedAs (Some quantity) way (Some script) (Some case) old status new len =
    MatchOption (method_written way script quantity) (PutsNothing CN_UNKNOWN old status new len)
    (λ method. PutsQuantity quantity method script case old status new len)
IsQuantityPrintedAs quantity way script case old status new len =
    PutsNothing CN_UNKNOWN old status new len

-- the result of printing a quantity, given the codes of a method, a script and a case
abbrev pub IsQuantityPrinted : Quantity → ℕ → ℕ → ℕ → List ℕ → ℕ → List ℕ → ℕ → Type 0
IsQuantityPrinted quantity method script case old status new len =
    IsQuantityPrintedAs (quantity_of quantity) (slice_get named_ways method)
    (slice_get scripts script) (slice_get cases case) old status new len

-- the result of printing a quantity in figures, or UNKNOWN if it has no form
abbrev pub IsFiguresPrintedAs : Option ExactQuantity → List ℕ → ℕ → List ℕ → ℕ → Type 0
IsFiguresPrintedAs (Some quantity) old status new len =
    PutsIfItFits (figures_text quantity) old status new len
IsFiguresPrintedAs quantity old status new len = PutsNothing CN_UNKNOWN old status new len

-- the result of printing a quantity in figures
abbrev pub IsFiguresPrinted : Quantity → List ℕ → ℕ → List ℕ → ℕ → Type 0
IsFiguresPrinted quantity old status new len =
    IsFiguresPrintedAs (quantity_of quantity) old status new len

-- the code of the form in which a printed quantity is read back, if its own code names a form
abbrev pub form_code_read_back : Quantity → Option ℕ
form_code_read_back quantity =
    option_map (λ exact. form_code (form_read_back exact)) (quantity_of quantity)
