pub mod Ledgers
pub mod Pools
pub mod Disks
pub mod Books
pub mod Lists
pub mod Questions
pub mod Plain
pub mod Told
