pub mod Answer
pub mod Lines
pub mod Private
pub mod Question
