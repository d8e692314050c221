pub mod Putting
pub mod Steps
