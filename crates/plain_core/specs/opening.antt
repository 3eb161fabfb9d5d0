pub mod Opening
pub mod Readable
pub mod Seen
