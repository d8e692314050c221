pub mod Decimal
pub mod Either
pub mod IntegerTypes
pub mod Private
pub mod Ways
