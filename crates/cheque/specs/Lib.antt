pub mod DateFigures
pub mod Digits
pub mod Reply
pub mod Request
pub mod Status
pub mod Working
