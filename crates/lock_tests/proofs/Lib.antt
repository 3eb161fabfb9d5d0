pub mod Sums
pub mod Differing
