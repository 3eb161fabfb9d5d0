pub mod Steps
pub mod Tasks
pub mod Cores
pub mod Needed
pub mod AnsweredByNeed
pub mod FirstFree
pub mod Keepers
