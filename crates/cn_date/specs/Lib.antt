pub mod Answer
pub mod Calendar
pub mod ErrorText
pub mod Form
pub mod Reading
pub mod Working
pub mod Writes
