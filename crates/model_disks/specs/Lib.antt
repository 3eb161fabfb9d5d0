pub mod Disks
pub mod Moves
pub mod Runs
pub mod Kept
pub mod Paged
