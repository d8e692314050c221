pub mod Buffered
pub mod Cut
pub mod Replying
pub mod State
