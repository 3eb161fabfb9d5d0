pub mod Sums
pub mod Histories
pub mod Turns
pub mod Keeping
pub mod Closing
