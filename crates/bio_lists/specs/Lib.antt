pub mod Submission
pub mod Punt
