pub mod Characters
pub mod Decimal
mod EitherExamples
pub mod PlainTexts
