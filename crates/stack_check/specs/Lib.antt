pub mod Accept
pub mod Sound
pub mod Rows
pub mod Adding
pub mod Finish
pub mod Drafting
