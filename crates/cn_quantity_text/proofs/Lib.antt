pub mod BareTexts
pub mod Bytes
pub mod ClearSpellings
pub mod ClearTexts
pub mod Cuts
pub mod DecimalTexts
pub mod DigitTexts
mod Examples
pub mod FiguresBack
pub mod FiguresRead
pub mod FractionTexts
pub mod KnownFigures
pub mod LastFigures
pub mod LastMarks
mod LawExamples
pub mod NumberTexts
pub mod NumeralsRead
pub mod Pieces
pub mod Points
pub mod Ratios
pub mod SignedTexts
pub mod SpelledBytes
pub mod SpelledNumbers
pub mod TrimmedDecimals
pub mod WrittenTexts
