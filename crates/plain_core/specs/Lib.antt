pub mod objects
pub mod steps
pub mod Cores
pub mod opening
