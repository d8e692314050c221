pub mod ErrorText
pub mod Figures
pub mod Parts
pub mod Working
