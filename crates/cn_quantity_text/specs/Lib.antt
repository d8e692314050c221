pub mod Digits
pub mod ErrorText
pub mod Figures
pub mod Numerals
pub mod ReadBack
pub mod Working
pub mod Writes
