pub mod Putting
pub mod Signing
pub mod Signs
pub mod Steps
pub mod Typing
