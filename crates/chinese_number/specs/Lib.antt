pub mod Digits
pub mod Methods
pub mod Parts
pub mod Places
pub use Rattle.cn_amount.specs.Answer as AmountAnswer
pub use Rattle.cn_amount.specs.ErrorText as AmountErrorText
pub use Rattle.cn_amount.specs.Form as AmountForm
pub use Rattle.cn_amount.specs.Fronts as AmountFronts
pub use Rattle.cn_amount.specs.Invoice as AmountInvoice
pub use Rattle.cn_amount.specs.Places as AmountPlaces
pub use Rattle.cn_amount.specs.Reading as AmountReading
pub use Rattle.cn_amount.specs.Signed as AmountSigned
pub use Rattle.cn_amount.specs.Typed as AmountTyped
pub use Rattle.cn_amount.specs.Writes as AmountWrites
pub use Rattle.cn_core.specs.CharIndex
pub use Rattle.cn_core.specs.Characters
pub use Rattle.cn_core.specs.FigureCharacters
pub use Rattle.cn_core.specs.Judge
pub use Rattle.cn_core.specs.Judging
pub use Rattle.cn_core.specs.Mark
pub use Rattle.cn_core.specs.Naive
pub use Rattle.cn_core.specs.Numeral
pub use Rattle.cn_core.specs.Place
pub use Rattle.cn_core.specs.Printing
pub use Rattle.cn_core.specs.Reading
pub use Rattle.cn_core.specs.Refusal
pub use Rattle.cn_core.specs.Scale
pub use Rattle.cn_core.specs.Spelling
pub use Rattle.cn_core.specs.Text
pub use Rattle.cn_core.specs.Value
pub use Rattle.cn_core.specs.Whole
pub use Rattle.cn_date.specs.Answer as DateAnswer
pub use Rattle.cn_date.specs.Calendar as DateCalendar
pub use Rattle.cn_date.specs.ErrorText as DateErrorText
pub use Rattle.cn_date.specs.Form as DateForm
pub use Rattle.cn_date.specs.Reading as DateReading
pub use Rattle.cn_date.specs.Writes as DateWrites
pub use Rattle.cn_quantity_text.specs.Digits as ExpressDigits
pub use Rattle.cn_quantity_text.specs.ErrorText as ExpressErrorText
pub use Rattle.cn_quantity_text.specs.Figures as ExpressFigures
pub use Rattle.cn_quantity_text.specs.Numerals as ExpressNumerals
pub use Rattle.cn_quantity_text.specs.ReadBack as ExpressReadBack
pub use Rattle.cn_quantity_text.specs.Writes as ExpressWrites
pub use Rattle.cn_find.specs.Belongs
pub use Rattle.cn_find.specs.Expressions
pub use Rattle.cn_find.specs.Flags
pub use Rattle.cn_find.specs.Number
pub use Rattle.cn_find.specs.Parting
pub use Rattle.cn_find.specs.Plain
pub use Rattle.cn_find.specs.Rule
pub use Rattle.cn_find.specs.Runs
pub use Rattle.cn_find.specs.Spans
pub use Rattle.cn_judge.specs.Reason
pub use Rattle.cn_calls.specs.PrintErrorText
pub use Rattle.cn_calls.specs.Prints
pub use Rattle.cn_calls.specs.Writes
pub use Rattle.cn_quantity.specs.Answer as QuantityAnswer
pub use Rattle.cn_quantity.specs.Characters as QuantityCharacters
pub use Rattle.cn_quantity.specs.Decimal as QuantityDecimal
pub use Rattle.cn_quantity.specs.Digits as QuantityDigits
pub use Rattle.cn_quantity.specs.Figures as QuantityFigures
pub use Rattle.cn_quantity.specs.Number as QuantityNumber
pub use Rattle.cn_quantity.specs.Ratio as QuantityRatio
pub use Rattle.cn_quantity.specs.Reading as QuantityReading
pub use Rattle.cn_quantity.specs.Reason as QuantityReason
pub use Rattle.cn_quantity.specs.Trimmed as QuantityTrimmed
pub use Rattle.cn_quantity.specs.Units as QuantityUnits
pub use Rattle.cn_quantity.specs.Whole as QuantityWhole
pub use Rattle.cn_calls.specs.Answer
pub use Rattle.cn_calls.specs.ReadErrorText
pub use Rattle.cn_replace.specs.InFigures
pub use Rattle.cn_replace.specs.Replaced
pub use Rattle.cn_replace.specs.Sinks
