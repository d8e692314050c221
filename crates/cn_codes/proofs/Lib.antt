pub mod CodeExamples
pub mod GroupsRead
pub mod Sums
pub mod WordsWritten
pub mod PartsFound
pub mod CodeLeaves
mod TensLeave
pub mod HereLeaves
mod AnyMapped
