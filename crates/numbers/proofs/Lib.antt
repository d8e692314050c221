mod Examples
pub mod Found
pub mod Lines
pub mod Requests
