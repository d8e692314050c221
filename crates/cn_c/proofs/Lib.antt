pub mod AmountReadBack
pub mod ColumnRows
pub mod DateReadBack
pub mod EitherBack
pub mod FiguresReadBack
pub mod Filling
mod LawExamples
pub mod QuantityReadBack
pub mod ReadBack
pub mod SignedReadBack
pub mod ToldBack
