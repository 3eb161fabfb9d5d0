pub mod Ranges
pub mod Levels
pub mod Places
pub mod Counting
pub mod Finding
