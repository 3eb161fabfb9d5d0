pub mod Filled
pub mod Openings
pub mod OfOne
pub mod NewTasks
pub mod OpenTasks
pub mod Begins
