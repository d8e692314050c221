pub mod Beginnings
pub mod CharIndexes
pub mod Joining
mod LawExamples
pub mod LeadingZeros
pub mod Methods
pub mod Numerals
pub mod Places
pub mod PlainDigits
pub mod Quantities
pub mod Reading
pub mod ReasonPlaces
pub mod Reasons
pub mod Refusals
pub mod Signs
pub mod WhiteSpace
