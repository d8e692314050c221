pub mod Bitmaps
pub mod Columns
pub mod Reading
