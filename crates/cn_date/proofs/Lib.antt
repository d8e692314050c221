pub mod CapitalTable
pub mod CharactersListed
pub mod Completed
pub mod Examples
pub mod FormsRead
pub mod Fronts
mod LawExamples
pub mod ReadText
pub mod Shows
pub mod Written
pub mod Years
