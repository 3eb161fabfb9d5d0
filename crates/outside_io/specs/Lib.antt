pub mod Causes
pub mod Failing
pub mod Memory
pub mod Reading
pub mod Saying
pub mod StdEnds
