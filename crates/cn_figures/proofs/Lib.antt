mod CharactersListed
pub mod Examples
mod FiguresRead
mod FiguresRun
mod Fronts
mod LawExamples
mod ShownRead
mod SignedReads
mod Yuan
