pub mod Devices
pub mod Leaves
pub mod Status
pub mod Steps
