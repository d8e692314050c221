-- Definitions that only contracts of private functions cite.
pub mod Putting
pub mod Spelled
