pub mod Cutting
pub mod DigitRuns
pub mod Endings
pub mod Faults
pub mod FirstBytes
pub mod Firsts
pub mod Judgements
pub mod MarkTable
pub mod OpenSums
pub mod Passing
pub mod Pieces
pub mod PlainDigits
mod ShortMarks
mod ReasonExamples
pub mod Spaces
pub mod Stacks
pub mod Steps
pub mod Tails
pub mod ThreeBytes
pub mod UnitOrder
pub mod Walking
pub mod WalkSteps
