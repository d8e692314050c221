pub mod Fields
pub mod OneAnswer
pub mod Strides
