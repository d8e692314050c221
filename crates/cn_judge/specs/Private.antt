-- Definitions that only contracts of private functions cite: how a text is taken apart, and the
-- state of a walk.
pub mod FirstKey
pub mod Firsts
pub mod PlainPiece
pub mod Spaces
pub mod Stack
pub mod Walk
pub mod Walked
