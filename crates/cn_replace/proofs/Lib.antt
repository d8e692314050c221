mod Examples
mod LawExamples
pub mod Canonicals
pub mod ChainsPut
pub mod Ends
pub mod KeptTexts
pub mod Measures
pub mod Parts
pub mod Passing
pub mod Replacing
pub mod Staying
pub mod Tenths
pub mod Texts
pub mod Unchanged
pub mod Unnoticed
