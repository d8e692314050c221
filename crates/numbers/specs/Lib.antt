pub mod Answers
pub mod Faults
pub mod Leaves
pub mod Private
pub mod Request
