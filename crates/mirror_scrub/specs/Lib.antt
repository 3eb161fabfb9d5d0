pub mod Seen
pub mod Stretches
pub mod Text
