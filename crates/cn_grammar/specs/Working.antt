pub mod Changes
pub mod ReadOn
