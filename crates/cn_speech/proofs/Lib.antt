pub mod Plain
pub mod Said
pub mod PiecesSaid
pub mod MeantTexts
pub mod PartLeaves
pub mod SpeechSteps
pub mod AsMany
pub mod NoFigures
pub mod Values
pub mod SignedParts
pub mod SpeechExamples
pub mod MeasuresWritten
mod LawExamples
