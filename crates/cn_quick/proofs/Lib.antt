pub mod RegularSteps
pub mod RegularSums
