pub mod Clear
pub mod Items
pub mod Segments
pub mod Runs
pub mod Rescue
pub mod Sorting
pub mod Waiting
