pub mod Pools
pub mod Report
pub mod Views
pub mod CheckText
pub mod LayoutText
