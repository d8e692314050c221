pub mod ErrorText
pub mod Prints
pub mod Working
pub mod Writes
