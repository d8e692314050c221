mod DateFiguresRead
mod DigitValues
pub mod Examples
mod LawExamples
mod Replies
mod Shown
