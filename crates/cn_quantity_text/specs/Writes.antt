-- The results of the calls that write a quantity.
use Rattle.std.specs.Prelude.{◌≡◌, ℕ, ◌<◌, ◌≤◌, pos, ◌<ℤ◌, ◌≤ℤ◌, IsTrue, IsFalse, List, length, encode_utf8_all, Result, MatchResult}
use Rattle.std.specs.declared.string.String.{String}
use Rattle.cn_core.specs.declared.case.ChineseCase.{ChineseCase}
use Rattle.cn_core.specs.declared.method.ChineseCountMethod.{ChineseCountMethod}
use Rattle.cn_core.specs.declared.script.ChineseVariant.{ChineseVariant}
use Rattle.cn_core.specs.Strings.{IsStringOf}
use Rattle.cn_quantity.specs.declared.quantity.Quantity.{Quantity}
use Rattle.cn_quantity_text.specs.declared.error.QuantityToChineseError.{QuantityToChineseError}
use Rattle.cn_quantity_text.specs.declared.error.QuantityToChineseError.TheVariants.{Overflow, Underflow, ZeroDenominator, OutOfMemory}
use Rattle.cn_quantity_text.specs.Numerals.{is_written_by, quantity_text}

-- the method writes the quantity
abbrev pub IsWritten : ChineseCountMethod → Quantity → Type 0
IsWritten method q = (0 < q.denominator) × IsTrue (is_written_by method q)

-- a number of the quantity is too great for the method
abbrev pub IsTooGreat : ChineseCountMethod → Quantity → Type 0
IsTooGreat method q = (0 < q.denominator) × IsFalse (is_written_by method q)

-- the error is the reason why a quantity is not written: its denominator is 0, or it is too large
-- or too small, by its sign
abbrev pub IsUnwritten : ChineseCountMethod → Quantity → QuantityToChineseError → Type 0
IsUnwritten method q ZeroDenominator = q.denominator ≡ 0
IsUnwritten method q Overflow = (pos 0 ≤ℤ q.numerator) × IsTooGreat method q
IsUnwritten method q Underflow = (q.numerator <ℤ pos 0) × IsTooGreat method q
IsUnwritten method q OutOfMemory = ⊥

-- when each error is returned: memory is requested only if the method writes the quantity
abbrev pub Refuses : ChineseCountMethod → Quantity → QuantityToChineseError → Type 0
Refuses method q OutOfMemory = IsWritten method q
Refuses method q error = IsUnwritten method q error

-- the bytes of a quantity in numerals
abbrev pub numeral_bytes : ChineseVariant → ChineseCase → ChineseCountMethod → Quantity → List ℕ
numeral_bytes variant case method q = encode_utf8_all (quantity_text variant case method q)

-- the method writes the quantity, and these are the bytes of its text
abbrev pub PutsQuantity : ChineseVariant → ChineseCase → ChineseCountMethod → Quantity → List ℕ
    → Type 0
PutsQuantity variant case method q bytes =
    IsWritten method q × (bytes ≡ numeral_bytes variant case method q) × (length bytes ≤ 471)

-- the result is the text of a quantity that the method writes, or the error
abbrev pub WritesQuantity : {Z : Type 0} → ChineseVariant → ChineseCase → ChineseCountMethod
    → Quantity → Result (String Z) QuantityToChineseError → Type 0
WritesQuantity variant case method q result =
    MatchResult result
    (λ text. IsWritten method q × IsStringOf (numeral_bytes variant case method q) text)
    (Refuses method q)
