pub mod Bars
pub mod DroppedZeros
pub mod Ends
mod Examples
pub mod Faults
pub mod FaultsFound
pub mod FigureGroups
pub mod Groups
pub mod Growing
pub mod KnownDecimals
mod LawExamples
pub mod Misreads
pub mod MixedTexts
pub mod Negated
pub mod Numbers
pub mod Points
pub mod Ratios
mod ReasonExamples
pub mod Signed
pub mod NumeralsAreQuantities
pub mod Told
pub mod Trims
pub mod WholeNumbers
pub mod WholeQuantities
